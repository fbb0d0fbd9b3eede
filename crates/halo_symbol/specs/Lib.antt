-- The definitions that the contracts of symbols and statuses cite.
pub mod Characters
pub mod Tree
pub mod Symbol
pub mod Bytes
pub mod Proper
pub mod Nesting
pub mod Spells
pub mod StatusOf
pub mod Piece
pub mod Pieces
pub mod Next
pub mod Absent
pub mod View
pub mod PieceView
pub mod SymbolView
pub mod Laws
