-- The definitions that the contracts of the values cite.
pub mod ByKind
pub mod PayValues
pub mod Reading
pub mod Setting
pub mod Way
pub mod ContractValues
pub mod Forms
pub mod Explained
