pub mod Buffers
pub mod Through
