pub mod EndowmentsOfSets
pub mod Multiples
