pub mod OtherLength
pub mod Search
