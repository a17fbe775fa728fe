pub mod Laws
pub mod Testing
pub mod Calls
pub mod Accepting
pub mod CodeSeries
