pub mod Splice
pub mod Little
pub mod Bytes
pub mod Parts
