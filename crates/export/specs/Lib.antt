pub mod Exported
pub mod BytesSeries
