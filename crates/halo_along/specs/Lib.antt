-- The definitions of values along the tree of a body.
pub mod Along
pub mod AtOnce
pub mod Contingent
pub mod Insured
pub mod Leavings
pub mod Lives
pub mod OfTask
pub mod Parts
pub mod Years
