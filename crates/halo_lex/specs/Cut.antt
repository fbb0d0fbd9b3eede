-- How a word is cut into tokens, and where it cannot be.
use Rattle.std.specs.Prelude.{◌≡◌, ℕ, ◌<◌, ◌≤◌, false, List, [], ◌∷◌, All, drop, length, map, slice_range, ⊤}
use Rattle.std.specs.Char.{is_ascii_alphabetic}
use Rattle.halo_text.specs.Number.{IsDigit}
use Rattle.halo_lex.specs.Lexeme.{Lexeme, name, number, byte, AreLexemes, AreLexemesBefore, Follows, IsLexeme, is_symbol_byte, texts, texts_before}
use Rattle.halo_lex.specs.declared.token.Token.{Token}
use Rattle.halo_lex.specs.declared.token.TokenKind.{TokenKind}
use Rattle.halo_lex.specs.declared.token.TokenKind.TheVariants as kind
use Rattle.halo_lex.specs.declared.cut.LexError.{LexError}
use Rattle.halo_lex.specs.declared.cut.LexError.TheVariants as error

-- these lexemes are those of the word
pub record AreLexemesOf (word : List ℕ) (lexemes : List Lexeme) : Type 0 where
  pub each : AreLexemes lexemes
  pub whole : texts lexemes ≡ word

-- the part of a word at which a token stands
abbrev pub part_of : List ℕ → Token → List ℕ
part_of word token = slice_range word token.from token.to

-- the lexeme of a kind with this text
abbrev pub lexeme_with : TokenKind → List ℕ → Lexeme
lexeme_with kind.Name text = name text
lexeme_with kind.Number text = number text
lexeme_with (kind.Byte b) text = byte b

-- a token of a word, with its text
abbrev pub lexeme_of : List ℕ → Token → Lexeme
lexeme_of word token = lexeme_with token.kind (part_of word token)

-- the text of a token is the part of the word at which it stands
abbrev pub HasItsText : List ℕ → Token → Type 0
HasItsText word token = texts (lexeme_of word token ∷ []) ≡ part_of word token

-- tokens follow each other without gap from one place to another
abbrev pub Tile : ℕ → List Token → ℕ → Type 0
Tile from [] to = from ≡ to
Tile from (token ∷ tokens) to =
    (token.from ≡ from) × (token.from < token.to) × Tile token.to tokens to

-- these tokens are those of the word
pub record IsCut (word : List ℕ) (tokens : List Token) : Type 0 where
  pub tile : Tile 0 tokens (length word)
  pub parts : All (HasItsText word) tokens
  pub lexemes : AreLexemesOf word (map (lexeme_of word) tokens)

-- a byte that begins no lexeme: it is neither a letter nor a digit, and does not stand by itself
pub record BeginsNoLexeme (b : ℕ) : Type 0 where
  pub letter : is_ascii_alphabetic b ≡ false
  pub digit : IsDigit b → ⊥
  pub symbol : is_symbol_byte b ≡ false

-- a word is stuck at a place: before it stand lexemes, each taken as long as it goes, and the byte
-- there begins none
pub record IsStuckAt (word : List ℕ) (place : ℕ) : Type 0 where
  -- the lexemes before the place
  pub before : List Lexeme
  -- the byte at the place
  pub first : ℕ
  -- the bytes behind it
  pub rest : List ℕ
  pub reads : word ≡ texts_before before (first ∷ rest)
  pub at : place ≡ length (texts before)
  pub lexemes : AreLexemesBefore before (first ∷ rest)
  pub none : BeginsNoLexeme first

-- an error tells the place at which a word cannot be cut; want of memory tells nothing
abbrev pub IsTold : List ℕ → LexError → Type 0
IsTold word error.Memory = ⊤
IsTold word (error.NotToken place) = IsStuckAt word place

-- the token that begins at a place of a word, taken as long as it goes
pub record IsNextToken (word : List ℕ) (place : ℕ) (token : Token) : Type 0 where
  pub from : token.from ≡ place
  pub some : place < token.to
  pub within : token.to ≤ length word
  pub part : HasItsText word token
  pub lexeme : IsLexeme (lexeme_of word token)
  pub follows : Follows (lexeme_of word token) (drop token.to word)
