-- The definitions that the contracts of the reader cite.
pub mod Faults
pub mod Reading
pub mod Usable
pub mod ContractLaws
pub mod FileLaws
pub mod WordReading
