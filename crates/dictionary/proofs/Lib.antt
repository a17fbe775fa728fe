pub mod Walk
pub mod Skipping
pub mod Missing
