-- The definitions that the contracts of the lines cite.
pub mod PayLines
pub mod Printable
pub mod Report
pub mod Values
pub mod Parts
