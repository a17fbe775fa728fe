pub mod Reading
pub mod Writing
pub mod RoundTrip
pub mod Ranges
pub mod Places
pub mod Needed
