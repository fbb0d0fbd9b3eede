-- The words of a line, one at a time.
use Rattle.std.proofs.Common.{◌≡◌, ℕ, ◌+◌, ◌-◌, ◌<◌, ◌≤◌, true, false, List, [], ◌∷◌, ◌++◌, ap, sym, ◌∙◌, refl, arith, length, take, drop, map, inl, inr}
use Rattle.std.specs.Prelude.{All, not, slice_range}
use Rattle.std.specs.List.{filter, onto_first, slice_split}
use Rattle.std.proofs.lemmas.Bool.{cases_Bool, not_from_false, not-true}
use Rattle.std.proofs.lemmas.List.{append-nil, drop-drop, get_or-drop, length-drop, take-append-drop}
use Rattle.std.proofs.lemmas.List.Edits.{length-between}
use Rattle.std.proofs.lemmas.List.Elements.{All-cons, All-nil, All-head, All-tail, All-weaker}
use Rattle.std.proofs.lemmas.List.Splits.{slice_split-cons_no, slice_split-cons_yes, slice_split_at, slice_split_none}
use Rattle.halo_lex.proofs.Runs.{run_all, run_stops}
use Rattle.halo_lex.specs.Lexeme.{BeginsWithout}
use Rattle.halo_lex.specs.Words.{AreWordsFrom, is_blank}
use Rattle.halo_lex.specs.declared.line.Span.{Span}
use Rattle.halo_syntax.specs.FileLines.{is_some, words_of}
use Rattle.halo_syntax.proofs.lines.NoLines.{behind, first_is}

-- a blank byte
abbrev pub IsBlank : ℕ → Type 0
IsBlank b = is_blank b ≡ true

-- a byte of a word
abbrev IsInWord : ℕ → Type 0
IsInWord b = not (is_blank b) ≡ true

-- a blank is no part of a word
words_of-blank : (b : ℕ) (text : List ℕ) → IsBlank b → words_of (b ∷ text) ≡ words_of text
words_of-blank b text blank = ap (filter is_some) (slice_split-cons_yes is_blank b text blank)

-- blanks before the words change nothing
words_of-blanks : (blanks text : List ℕ) → All IsBlank blanks → words_of (blanks ++ text) ≡ words_of text
words_of-blanks [] text all = refl
words_of-blanks (b ∷ blanks) text all =
    words_of-blank b (blanks ++ text) (All-head IsBlank b blanks all)
    ∙ words_of-blanks blanks text (All-tail IsBlank b blanks all)

-- a piece of at least one byte is kept
kept : (piece : List ℕ) (pieces : List (List ℕ)) → 0 < length piece
    → filter is_some (piece ∷ pieces) ≡ piece ∷ filter is_some pieces
kept [] pieces some = absurd (omega arith)
kept (b ∷ piece) pieces some = refl

-- a word ends where a blank or nothing follows
words_of-word : (word rest : List ℕ) → 0 < length word → All IsInWord word → BeginsWithout IsInWord rest
    → words_of (word ++ rest) ≡ word ∷ words_of rest
words_of-word word [] some all ends =
    ap words_of (append-nil word)
    ∙ ap (filter is_some) (slice_split_none is_blank word
    (All-weaker IsInWord (λ b. is_blank b ≡ false) (λ b h. not-true (is_blank b) h) word all))
    ∙ kept word [] some
words_of-word word (b ∷ rest) some all ends =
    let blank : IsBlank b =
    elim (cases_Bool (is_blank b)) [ inl yes' ↦ yes' | inr no' ↦ absurd (ends (not_from_false (is_blank b) no')) ]
    in
    ap (filter is_some) (slice_split_at is_blank word b rest
    (All-weaker IsInWord (λ b. is_blank b ≡ false) (λ b h. not-true (is_blank b) h) word all) blank)
    ∙ kept word (slice_split is_blank rest) some
    ∙ ap (λ words. word ∷ words) (sym (words_of-blank b rest blank))

-- the part of a line at a span
abbrev pub text_at : List ℕ → Span → List ℕ
text_at line span = slice_range line span.from span.to

-- what stands from a place on, cut at a later one
cut_at : (line : List ℕ) (from to : ℕ) → from ≤ to → drop from line ≡ slice_range line from to ++ drop to line
cut_at line from to forth =
    sym (take-append-drop (to - from) (drop from line))
    ∙ ap (λ rest. take (to - from) (drop from line) ++ rest)
    (drop-drop (to - from) from line ∙ ap (λ n. drop n line) (omega arith))

-- the parts of a line at its words are its words
pub words_at : (line : List ℕ) (place : ℕ) (spans : List Span) → AreWordsFrom line place spans
    → map (text_at line) spans ≡ words_of (drop place line)
words_at line place [] are =
    let all : All IsBlank (drop place line) =
    λ k d lt. rw get_or-drop (are (place + k) d (omega arith) (omega (arith, length-drop place line))) in
    sym (words_of-blanks (drop place line) [] all) ∙ ap words_of (append-nil (drop place line))
words_at line place (span ∷ spans) are =
    let next = are.0 in
    let blanks = run_all is_blank line place span.from next.blanks in
    let bytes = run_all (λ b. not (is_blank b)) line span.from span.to next.bytes in
    let ends = run_stops (λ b. not (is_blank b)) line span.from span.to next.bytes in
    let some : 0 < length (text_at line span) =
    omega (arith, next.some, length-between line span.from span.to next.bytes.within) in
    sym (ap words_of (cut_at line place span.from next.blanks.forth
    ∙ ap (λ rest. slice_range line place span.from ++ rest) (cut_at line span.from span.to next.bytes.forth))
    ∙ words_of-blanks (slice_range line place span.from) (text_at line span ++ drop span.to line) blanks
    ∙ words_of-word (text_at line span) (drop span.to line) some bytes ends
    ∙ ap (λ words. text_at line span ∷ words) (sym (words_at line span.to spans are.1)))

-- the first piece of a text, and what follows it
record IsCut (text piece after : List ℕ) : Type 0 where
  -- the other pieces
  others : List (List ℕ)
  text_is : text ≡ piece ++ after
  pieces_are : slice_split is_blank text ≡ piece ∷ others
  words_are : filter is_some others ≡ words_of after

-- a text has a first piece
cut_first : (text : List ℕ) → (piece : List ℕ) × (after : List ℕ) × IsCut text piece after
cut_first [] = ([], [], record { others = []; text_is = refl; pieces_are = refl; words_are = refl })
cut_first (b ∷ text) = elim (cases_Bool (is_blank b)) [
  | inl blank ↦ (
    [],
    b ∷ text,
    record {
      others = slice_split is_blank text;
      text_is = refl;
      pieces_are = slice_split-cons_yes is_blank b text blank;
      words_are = sym (words_of-blank b text blank);
    },
  )
  | inr other ↦
      let rest = cut_first text in (
        b ∷ rest.0,
        rest.1,
        record {
          others = rest.2.others;
          text_is = ap (λ bytes. b ∷ bytes) rest.2.text_is;
          pieces_are = slice_split-cons_no is_blank b text other ∙ ap (onto_first b) rest.2.pieces_are;
          words_are = rest.2.words_are;
        },
      )
]

-- a text is blanks, a word, and what has the other words
pub record Begins (text word : List ℕ) (words : List (List ℕ)) : Type 0 where
  pub before : List ℕ
  pub after : List ℕ
  pub blanks : All IsBlank before
  pub text_is : text ≡ before ++ (word ++ after)
  pub words_are : words_of after ≡ words

-- a text that has words is such
pub first_word : (text word : List ℕ) (words : List (List ℕ)) → words_of text ≡ word ∷ words → Begins text word words
first_word [] word words e = absurd cc
first_word (b ∷ text) word words e = elim (cases_Bool (is_blank b)) [
  | inl blank ↦
      let rest = first_word text word words (sym (words_of-blank b text blank) ∙ e) in
      record {
        before = b ∷ rest.before;
        after = rest.after;
        blanks = All-cons IsBlank b rest.before blank rest.blanks;
        text_is = ap (λ bytes. b ∷ bytes) rest.text_is;
        words_are = rest.words_are;
      }
  | inr other ↦
      let cut = cut_first text in
      let read =
      sym (ap (filter is_some) (slice_split-cons_no is_blank b text other ∙ ap (onto_first b) cut.2.pieces_are))
      ∙ e in
      record {
        before = [];
        after = cut.1;
        blanks = All-nil IsBlank;
        text_is = ap (λ bytes. b ∷ bytes) cut.2.text_is ∙ ap (λ w. w ++ cut.1) (first_is read);
        words_are = sym cut.2.words_are ∙ behind read;
      }
]
