-- The words of a line.
use Rattle.std.specs.Prelude.{◌≡◌, ℕ, ◌<◌, ◌||◌, ◌==◌, Bool, true, List, [], ◌∷◌, length, not}
use Rattle.std.specs.List.{AllWithin}
use Rattle.halo_lex.specs.Run.{IsRun}
use Rattle.halo_lex.specs.declared.line.Span.{Span}

-- a byte that separates words: a space (32) or a tab (9)
abbrev pub is_blank : ℕ → Bool
is_blank b = (b == 32) || (b == 9)

-- from this place on a line has nothing but blanks
abbrev pub AreBlanksFrom : List ℕ → ℕ → Type 0
AreBlanksFrom line place = AllWithin (λ b. is_blank b ≡ true) line place (length line)

-- the word that comes next from a place on: first stand the blanks there, if any, and then one or
-- more other bytes, up to a blank or to the line's end
pub record IsNextWord (line : List ℕ) (place : ℕ) (word : Span) : Type 0 where
  pub blanks : IsRun is_blank line place word.from
  pub some : word.from < word.to
  pub bytes : IsRun (λ b. not (is_blank b)) line word.from word.to

-- from this place on a line has these words, in order, and else only blanks
abbrev pub AreWordsFrom : List ℕ → ℕ → List Span → Type 0
AreWordsFrom line place [] = AreBlanksFrom line place
AreWordsFrom line place (word ∷ words) =
    IsNextWord line place word × AreWordsFrom line word.to words

-- these are the words of the line, in order
abbrev pub AreWords : List ℕ → List Span → Type 0
AreWords line words = AreWordsFrom line 0 words
