pub mod Templates
pub mod Refusals
pub mod Totals
pub mod Marks
pub mod Same
