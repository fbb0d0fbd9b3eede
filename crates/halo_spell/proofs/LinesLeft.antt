-- The texts of lines, and of parts of lines, that are still to be written.
use Rattle.std.proofs.Common.{◌≡◌, ◌≢◌, ℕ, ◌+◌, ◌/◌, ◌%◌, ◌<◌, ◌≤◌, List, [], ◌∷◌, ◌++◌, append_assoc, append-nil, drop, get_or, length, map, ap, sym, ◌∙◌, refl, arith, add-one, drop-cons}
use Rattle.std.specs.Prelude.{codes, flat_map}
use Rattle.std.specs.Fmt.{decimal}
use Rattle.std.specs.List.{join_with_byte}
use Rattle.std.proofs.lemmas.Bool.{ne_eqb}
use Rattle.halo_interest.specs.Rates.{rate_at}
use Rattle.halo_interest.specs.declared.rate.Rate.{Rate}
use Rattle.halo_contract.specs.PlainContract.{life_names}
use Rattle.halo_syntax.specs.Line.{Line, fraction_word, rate_words}
use Rattle.halo_contract.specs.declared.contract.LifeLine.{LifeLine}
use Rattle.halo_spell.specs.Canonical.{names_in}
use Rattle.halo_spell.specs.ContractText.{canonical_rate, interest_lines, line_text, lines_text}
use Rattle.halo_spell.specs.LineText.{names_text, rate_text}

-- the texts of some fractions behind the first
abbrev pub later_text : List Rate → List ℕ
later_text rates = flat_map rate_text rates

-- once one more part is written, what is behind it is left
pub part_written : (a b part left all : List ℕ) → b ≡ a ++ part → a ++ (part ++ left) ≡ all → b ++ left ≡ all
part_written a b part left all e h = rw (e, append_assoc) h

module _ {X : Type 0} (xs : List X) (k : ℕ) (d : X) (here : k < length xs) where
  -- the elements from a place on are the one there and those behind it
  pub front : drop k xs ≡ get_or xs k d ∷ drop (k + 1) xs
  front = rw (add-one, drop-cons xs k d here)

  -- and so are their lines
  pub next_line : (f : X → Line)
      → lines_text (map f (drop k xs)) ≡ (line_text (f (get_or xs k d)) ++ codes "\n") ++ lines_text
      (map f (drop (k + 1) xs))
  next_line f = ap (λ ys. lines_text (map f ys)) front

-- the words of a line with a space between each two are the first, and the others with a space before each
pub join_words : (word : List ℕ) (words : List (List ℕ)) → join_with_byte 32 (word ∷ words) ≡ word ++ names_text words
join_words word [] = sym (append-nil word)
join_words word (next ∷ words) = ap (λ bs. word ++ 32 ∷ bs) (join_words next words)

-- a year and a fraction, a space before each
spaced : (year fraction rest : List ℕ)
    → 32 ∷ (year ++ 32 ∷ (fraction ++ rest)) ≡ (codes " " ++ year ++ codes " " ++ fraction) ++ rest
spaced year fraction rest =
    ap (λ bs. 32 ∷ bs) (sym (append_assoc (year ++ codes " ") fraction rest
    ∙ append_assoc year (codes " ") (fraction ++ rest)))

-- the words of some fractions, a space before each
pub rate_words_text : (rates : List Rate) → names_text (rate_words (map canonical_rate rates)) ≡ later_text rates
rate_words_text [] = refl
rate_words_text (rate ∷ rates) =
    let fraction = fraction_word (decimal rate.p) (decimal rate.q) in
    ap (λ bs. 32 ∷ (decimal rate.year ++ 32 ∷ (fraction ++ bs))) (rate_words_text rates)
    ∙ spaced (decimal rate.year) fraction (later_text rates)

-- the line of an interest is its first fraction, and the others behind it
pub interest_text : (rates : List Rate) → 1 ≤ length rates
    → lines_text (interest_lines rates)
    ≡ codes "interest "
    ++ (fraction_word (decimal (rate_at rates 0).p) (decimal (rate_at rates 0).q) ++
    (later_text (drop 1 rates) ++ codes "\n"))
interest_text [] some = absurd (omega arith)
interest_text (first ∷ later) some =
    let fraction = fraction_word (decimal first.p) (decimal first.q) in
    let words =
    join_words fraction (rate_words (map canonical_rate later))
    ∙ ap (λ bs. fraction ++ bs) (rate_words_text later) in
    ap (λ bs. codes "interest " ++ ((bs ++ codes "\n") ++ [])) words
    ∙ ap (λ bs. codes "interest " ++ bs) (append-nil ((fraction ++ later_text later) ++ codes "\n")
    ∙ append_assoc fraction (later_text later) (codes "\n"))

-- and so it is written
pub interest_written : (old a b c new fraction later all : List ℕ) → a ≡ old ++ codes "interest " → b ≡ a ++ fraction
    → c ++ [] ≡ b ++ later → all ≡ codes "interest " ++ (fraction ++ (later ++ codes "\n"))
    → c ++ codes "\n" ≡ old ++ all
interest_written old a b c new fraction later all e f g h = rw (h, sym (append-nil c) ∙ g, f, e) (simp append_assoc)

-- the line of a reserve is its time, and the names behind it
pub reserve_written : (old a b c time names all : List ℕ) → a ≡ old ++ codes "reserve " → b ≡ a ++ time → c ≡ b ++ names
    → all ≡ time ++ names
    → c ++ codes "\n" ≡ old ++ ((codes "reserve " ++ all) ++ codes "\n")
reserve_written old a b c time names all e f g h = rw (h, g, f, e) (simp append_assoc)

-- lines one after the other
pub lines_text-append : (ls ms : List Line) → lines_text (ls ++ ms) ≡ lines_text ls ++ lines_text ms
lines_text-append [] ms = refl
lines_text-append (l ∷ ls) ms =
    ap (λ bs. (line_text l ++ codes "\n") ++ bs) (lines_text-append ls ms)
    ∙ sym (append_assoc (line_text l ++ codes "\n") (lines_text ls) (lines_text ms))

-- six kinds of lines that are written one after the other
pub six_written : (s t u v w x y : List ℕ) (a b c d e f : List Line) → s ≡ [] → t ≡ s ++ lines_text a
    → u ≡ t ++ lines_text b → v ≡ u ++ lines_text c → w ≡ v ++ lines_text d
    → x ≡ w ++ lines_text e → y ≡ x ++ lines_text f → y ≡ lines_text (a ++ b ++ c ++ d ++ e ++ f)
six_written s t u v w x y a b c d e f g h i j k l m =
    rw (
      lines_text-append (a ++ b ++ c ++ d ++ e) f,
      lines_text-append (a ++ b ++ c ++ d) e,
      lines_text-append
          (a ++ b ++ c) d,
      lines_text-append (a ++ b) c,
      lines_text-append a b,
      m,
      l,
      k,
      j,
      i,
      h,
      g,
    ) refl

-- the names of a set: a life in the set comes first
module _ (lives : List LifeLine) (k left : ℕ) (d : LifeLine) (here : k < length lives) where
  pub with_life : left % 2 ≡ 1
      → names_in (life_names (drop k lives)) left
      ≡ (get_or lives k d).name ∷ names_in (life_names (drop (k + 1) lives)) (left / 2)
  with_life is = rw (front lives k d here, is) refl

  -- and one that is not is left out
  pub without_life : left % 2 ≢ 1
      → names_in (life_names (drop k lives)) left ≡ names_in (life_names (drop (k + 1) lives)) (left / 2)
  without_life is = rw (front lives k d here, ne_eqb (left % 2) 1 is) refl
