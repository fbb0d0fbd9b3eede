pub mod Worth
pub mod SetSteps
pub mod OfTask
pub mod Bounds
pub mod SetProduct
pub mod RunWorth
pub mod AtTime
pub mod Payments
