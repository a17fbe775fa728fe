pub mod Buffer
pub mod Runs
pub mod Turns
