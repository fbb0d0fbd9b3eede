-- Laws of lexemes, tokens and words.
use Rattle.std.specs.Prelude.{◌≡◌, ◌↔◌, ◌⊎◌, ℕ, ◌<◌, ◌≤◌, All, List, length}
use Rattle.halo_text.specs.Name.{IsName}
use Rattle.halo_lex.specs.Lexeme.{Lexeme, AreLexemes, IsLongName, texts}
use Rattle.halo_lex.specs.Cut.{AreLexemesOf, IsCut, IsStuckAt}
use Rattle.halo_lex.specs.Words.{AreWords}
use Rattle.halo_lex.specs.declared.line.Span.{Span}
use Rattle.halo_lex.specs.declared.token.Token.{Token}

-- lexemes that are taken as long as they go are told by their texts
abbrev pub LexemesAreOne : Type 0
LexemesAreOne =
    (lexemes others : List Lexeme) → AreLexemes lexemes → AreLexemes others
    → texts lexemes ≡ texts others → lexemes ≡ others

-- a word is cut into tokens in at most one way
abbrev pub CutIsOne : Type 0
CutIsOne =
    (word : List ℕ) (tokens others : List Token) → IsCut word tokens → IsCut word others
    → tokens ≡ others

-- a word is stuck at one place at most
abbrev pub StuckIsOne : Type 0
StuckIsOne =
    (word : List ℕ) (place other : ℕ) → IsStuckAt word place → IsStuckAt word other → place ≡ other

-- a word is cut into tokens, or it is stuck at some place
abbrev pub CutOrStuck : Type 0
CutOrStuck =
    (word : List ℕ)
    → ((tokens : List Token) × IsCut word tokens) ⊎ ((place : ℕ) × IsStuckAt word place)

-- a word that has lexemes is stuck nowhere
abbrev pub NotBoth : Type 0
NotBoth =
    (word : List ℕ) (lexemes : List Lexeme) (place : ℕ) → AreLexemesOf word lexemes
    → IsStuckAt word place → ⊥

-- each token of a word has at least one byte, and lies within the word
abbrev pub TokensAreWithin : Type 0
TokensAreWithin =
    (word : List ℕ) (tokens : List Token) → IsCut word tokens
    → All (λ (t : Token). (t.from < t.to) × (t.to ≤ length word)) tokens

-- a name is a name of any length that has at most 32 bytes
abbrev pub NamesAreShort : Type 0
NamesAreShort = (text : List ℕ) → IsName text ↔ (IsLongName text × (length text ≤ 32))

-- a line has its words in one way
abbrev pub WordsAreOne : Type 0
WordsAreOne =
    (line : List ℕ) (words others : List Span) → AreWords line words → AreWords line others
    → words ≡ others

-- each word of a line has at least one byte, and lies within the line
abbrev pub WordsAreWithin : Type 0
WordsAreWithin =
    (line : List ℕ) (words : List Span) → AreWords line words
    → All (λ (w : Span). (w.from < w.to) × (w.to ≤ length line)) words
