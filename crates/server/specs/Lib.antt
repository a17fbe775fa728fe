pub mod Admitted
pub mod Left
pub mod Tables
pub mod CodeSeries
