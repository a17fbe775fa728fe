pub mod Order
pub mod Areas
pub mod Fields
pub mod Searches
