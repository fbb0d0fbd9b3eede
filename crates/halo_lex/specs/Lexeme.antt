-- Lexemes: the names, numbers and single bytes that a word is cut into.
use Rattle.std.specs.Prelude.{◌≡◌, ℕ, ◌==◌, Bool, true, List, [], ◌∷◌, ◌++◌, All, codes, ⊤}
use Rattle.std.specs.Char.{is_ascii_alphabetic}
use Rattle.std.specs.List.{list_any}
use Rattle.halo_text.specs.Name.{is_name_byte}
use Rattle.halo_text.specs.Number.{IsDigit, IsNumber}

-- a token with its text
pub data Lexeme : Type 0 where
  -- a name: a letter, and then letters, digits and `_`
  name : List ℕ → Lexeme
  -- a number: its digits
  number : List ℕ → Lexeme
  -- a byte that stands by itself
  byte : ℕ → Lexeme

-- a name of any length: a letter, and then bytes that may stand in a name
abbrev pub IsLongName : List ℕ → Type 0
IsLongName [] = ⊥
IsLongName (first ∷ rest) =
    (is_ascii_alphabetic first ≡ true) × All (λ b. is_name_byte b ≡ true) rest

-- the bytes that stand by themselves
abbrev pub symbol_bytes : List ℕ
symbol_bytes = codes "[]{}()<>:|/^,"

-- a byte that stands by itself
unfoldable pub is_symbol_byte : ℕ → Bool
is_symbol_byte b = list_any (λ symbol. symbol == b) symbol_bytes

-- the text of a lexeme is of its kind
abbrev pub IsLexeme : Lexeme → Type 0
IsLexeme (name text) = IsLongName text
IsLexeme (number text) = IsNumber text
IsLexeme (byte b) = is_symbol_byte b ≡ true

-- the text of a lexeme, and then these bytes
abbrev pub text_before : Lexeme → List ℕ → List ℕ
text_before (name text) rest = text ++ rest
text_before (number text) rest = text ++ rest
text_before (byte b) rest = b ∷ rest

-- the texts of lexemes one after the other, and then these bytes
abbrev pub texts_before : List Lexeme → List ℕ → List ℕ
texts_before [] rest = rest
texts_before (lexeme ∷ lexemes) rest = text_before lexeme (texts_before lexemes rest)

-- the texts of lexemes one after the other
abbrev pub texts : List Lexeme → List ℕ
texts lexemes = texts_before lexemes []

-- these bytes do not begin with a byte of the kind
abbrev pub BeginsWithout : (ℕ → Type 0) → List ℕ → Type 0
BeginsWithout P [] = ⊤
BeginsWithout P (first ∷ _) = P first → ⊥

-- a lexeme is taken as long as it goes: these bytes, which follow it, do not begin with one that
-- would belong to it
abbrev pub Follows : Lexeme → List ℕ → Type 0
Follows (name _) rest = BeginsWithout (λ b. is_name_byte b ≡ true) rest
Follows (number _) rest = BeginsWithout IsDigit rest
Follows (byte _) rest = ⊤

-- each of these is a lexeme and is taken as long as it goes, where these bytes follow the last
abbrev pub AreLexemesBefore : List Lexeme → List ℕ → Type 0
AreLexemesBefore [] rest = ⊤
AreLexemesBefore (lexeme ∷ lexemes) rest =
    IsLexeme lexeme × Follows lexeme (texts_before lexemes rest) × AreLexemesBefore lexemes rest

-- each of these is a lexeme and is taken as long as it goes
abbrev pub AreLexemes : List Lexeme → Type 0
AreLexemes lexemes = AreLexemesBefore lexemes []
