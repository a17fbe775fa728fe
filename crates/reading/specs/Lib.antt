pub mod Frame
pub mod Numbers
pub mod Reading
pub mod Rows
