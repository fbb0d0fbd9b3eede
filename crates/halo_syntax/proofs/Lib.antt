pub mod Texts
pub mod Rates
pub mod lines
