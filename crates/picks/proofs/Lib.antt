pub mod Picks
pub mod Fold
pub mod Shift
pub mod Keep
