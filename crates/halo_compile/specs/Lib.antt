pub mod Form
pub mod Marks
pub mod Terms
pub mod Weight
pub mod ValidTask
pub mod OfTask
pub mod NamedSets
pub mod Order
