-- The definitions of pure endowments.
pub mod Endowment
pub mod First
pub mod Payments
