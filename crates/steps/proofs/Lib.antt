pub mod Ids
pub mod Templates
pub mod Same
