-- The definitions that the contracts of the sample cite.
pub mod Generator
pub mod Tables
pub mod Contract
pub mod Sample
pub mod Records
pub mod Words
pub mod Laws
