-- The plain form of a piece in memory.
use Rattle.halo_symbol.specs.Piece as plain
use Rattle.halo_symbol.specs.declared.piece.Piece.{Piece}
use Rattle.halo_symbol.specs.declared.piece.Piece.TheVariants as piece

-- a piece with its text in place of the part of the word that it borrows
abbrev pub plain_piece : Piece → plain.Piece
plain_piece (piece.Name text) = plain.name text.now
plain_piece piece.Bar = plain.bar
plain_piece (piece.Number digits) = plain.number digits.now
plain_piece (piece.Byte b) = plain.byte b
