pub mod Outcomes
pub mod Playing
