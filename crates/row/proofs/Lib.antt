pub mod Walk
pub mod Moves
