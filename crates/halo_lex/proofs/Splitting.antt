-- A line has its words in one way, and they lie within it.
use Rattle.std.proofs.Common.{◌≡◌, ℕ, ◌<◌, ◌≤◌, List, [], ◌∷◌, ap, ap₂, arith, get_or, length, refl}
use Rattle.std.proofs.lemmas.Bool.{both_ways, not-true}
use Rattle.std.specs.Prelude.{All}
use Rattle.std.proofs.lemmas.List.Elements.{All-cons, All-nil}
use Rattle.halo_lex.specs.Words.{AreBlanksFrom, AreWordsFrom, IsNextWord, is_blank}
use Rattle.halo_lex.specs.declared.line.Span.{Span}
use Rattle.halo_lex.proofs.Runs.{one_end}

-- two spans with equal ends are one
span_one : (word other : Span) → word.from ≡ other.from → word.to ≡ other.to → word ≡ other
span_one word other e f =
    let span : ℕ → ℕ → Span = λ a b. record { from = a; to = b } in
    ap₂ span e f

-- where a line has blanks only, no word comes next
none_next : (line : List ℕ) (place : ℕ) (word : Span) → AreBlanksFrom line place → IsNextWord line place word → ⊥
none_next line place word blanks next =
    let some = next.some in
    let forth = next.blanks.forth in
    let within = next.bytes.within in
    let blank = blanks word.from 0 forth (omega arith) in
    let other = next.bytes.pass word.from 0 (omega arith) some in
    both_ways (is_blank (get_or line word.from 0)) (not-true (is_blank (get_or line word.from 0)) other) blank

-- one word comes next
next_one : (line : List ℕ) (place : ℕ) (word other : Span) → IsNextWord line place word → IsNextWord line place other
    → word ≡ other
next_one line place word other a b =
    let from = one_end is_blank line place word.from other.from a.blanks b.blanks in
    span_one word other from (one_end _ line other.from word.to other.to (rw from at a.bytes) b.bytes)

-- from a place on a line has its words in one way
pub words_one : (line : List ℕ) (place : ℕ) (words others : List Span) → AreWordsFrom line place words
    → AreWordsFrom line place others → words ≡ others
words_one line place [] [] a b = refl
words_one line place [] (other ∷ others) a b = absurd (none_next line place other a b.0)
words_one line place (word ∷ words) [] a b = absurd (none_next line place word b a.0)
words_one line place (word ∷ words) (other ∷ others) a b =
    let first = next_one line place word other a.0 b.0 in
    let to = ap (λ (w : Span). w.to) first in
    ap₂ (λ (x : Span) (xs : List Span). x ∷ xs) first (words_one line other.to words others (rw to at a.1) b.1)

-- a word has at least one byte, and ends no later than this place
abbrev EndsBy : ℕ → Span → Type 0
EndsBy end word = (word.from < word.to) × (word.to ≤ end)

-- from a place on the words of a line lie within it
pub words_within : (line : List ℕ) (place : ℕ) (words : List Span) → AreWordsFrom line place words
    → All (EndsBy (length line)) words
words_within line place [] are = All-nil (EndsBy (length line))
words_within line place (word ∷ words) are =
    All-cons (EndsBy (length line)) word words (are.0.some, are.0.bytes.within) (words_within line word.to words are.1)
