-- The definitions that the contracts of columns cite.
pub mod Entries
pub mod Set
pub mod Summed
