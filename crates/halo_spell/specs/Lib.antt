-- The definitions that the contracts of the canonical texts cite.
pub mod Decimal
pub mod Canonical
pub mod StatusText
pub mod Spellable
pub mod ContractText
pub mod LineText
pub mod Laws
