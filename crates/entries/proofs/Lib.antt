pub mod Walk
pub mod Reading
