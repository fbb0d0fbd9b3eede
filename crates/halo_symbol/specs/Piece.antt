-- Pieces: the lexemes of a symbol or status, where the name `bar` is a piece of its own.
use Rattle.std.specs.Prelude.{◌≡◌, ◌≢◌, ℕ, zero, suc, true, List, [], ◌∷◌, map, refl, ⊤}
use Rattle.std.specs.Coded.{Coded, code_by, coded×, coded_ℕ, coded_list}
use Rattle.halo_text.specs.Number.{IsNumber}
use Rattle.halo_lex.specs.Lexeme as lexeme
use Rattle.halo_lex.specs.Lexeme.{Lexeme, Follows, is_symbol_byte, texts}
use Rattle.halo_symbol.specs.Characters.{bar_text}
use Rattle.halo_symbol.specs.Proper.{IsPlainName}

-- one piece
pub data Piece : Type 0 where
  -- a name other than `bar`
  name : List ℕ → Piece
  -- the name `bar`
  bar : Piece
  -- a number: its digits
  number : List ℕ → Piece
  -- a byte that stands by itself
  byte : ℕ → Piece

-- the lexeme that a piece is
abbrev pub as_lexeme : Piece → Lexeme
as_lexeme (name text) = lexeme.name text
as_lexeme bar = lexeme.name bar_text
as_lexeme (number digits) = lexeme.number digits
as_lexeme (byte b) = lexeme.byte b

-- the text of a piece is of its kind
abbrev pub IsPiece : Piece → Type 0
IsPiece (name text) = IsPlainName text
IsPiece bar = ⊤
IsPiece (number digits) = IsNumber digits
IsPiece (byte b) = is_symbol_byte b ≡ true

-- the piece that a lexeme is
pub record IsPieceOf (lexeme : Lexeme) (piece : Piece) : Type 0 where
  pub same : as_lexeme piece ≡ lexeme
  -- the name `bar` is the piece `bar`
  pub apart : piece ≢ name bar_text

-- the texts of pieces one after the other
abbrev pub piece_texts : List Piece → List ℕ
piece_texts pieces = texts (map as_lexeme pieces)

-- each of these is a piece and is taken as long as it goes
abbrev pub ArePieces : List Piece → Type 0
ArePieces [] = ⊤
ArePieces (piece ∷ pieces) =
    IsPiece piece × Follows (as_lexeme piece) (piece_texts pieces) × ArePieces pieces

-- the number of a piece's kind, with the byte where it is one, and its text
abbrev pub kind_and_text : Piece → ℕ × List ℕ
kind_and_text (name text) = (0, text)
kind_and_text bar = (1, [])
kind_and_text (number digits) = (2, digits)
kind_and_text (byte b) = (suc (suc (suc b)), [])

-- the piece that such a number and a text stand for
abbrev pub piece_of_parts : ℕ → List ℕ → Piece
piece_of_parts zero text = name text
piece_of_parts (suc zero) text = bar
piece_of_parts (suc (suc zero)) text = number text
piece_of_parts (suc (suc (suc b))) text = byte b

-- the same of them as a pair
abbrev pub piece_of : ℕ × List ℕ → Piece
piece_of parts = piece_of_parts parts.0 parts.1

-- a piece is what they stand for
pub piece_of-kind_and_text : (piece : Piece) → piece_of (kind_and_text piece) ≡ piece
piece_of-kind_and_text (name text) = refl
piece_of-kind_and_text bar = refl
piece_of-kind_and_text (number digits) = refl
piece_of-kind_and_text (byte b) = refl

-- lists of pieces are told apart by their codes
abbrev pub coded_pieces : Coded (List Piece)
coded_pieces =
    coded_list (code_by (ℕ × List ℕ) (coded× coded_ℕ (coded_list coded_ℕ)) kind_and_text piece_of
    piece_of-kind_and_text)
