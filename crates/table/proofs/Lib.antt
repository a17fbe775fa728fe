pub mod Walk
pub mod Order
pub mod Moves
pub mod Join
pub mod Release
pub mod Sound
