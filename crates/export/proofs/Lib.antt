pub mod Testing
pub mod Quiet
pub mod Through
pub mod Refusals
pub mod Narrow
pub mod ReadBack
pub mod BytesSeries
