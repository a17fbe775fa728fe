pub mod Texts
pub mod Laid
pub mod Numbers
pub mod Written
