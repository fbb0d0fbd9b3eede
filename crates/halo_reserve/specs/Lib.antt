-- The definitions that the contracts of reserves cite.
pub mod Reserve
