-- The definitions that the laws of a sample's files cite.
pub mod DrawnTables
pub mod DrawnLines
pub mod Laws
