-- The definitions that the contracts of a run cite.
pub mod Command
pub mod Input
pub mod Arguments
pub mod Sample
pub mod Refusal
pub mod Verdict
pub mod Run
pub mod Laws
