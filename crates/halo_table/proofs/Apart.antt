-- Texts in order, and which of them are equal.
use Rattle.std.proofs.Common.{◌≡◌, ◌≢◌, ◌∙◌, ℕ, zero, suc, ◌+◌, ◌<◌, ◌≤◌, List, Bool, true, false, arith, get_or, inl, inr, length, refl, sym, ap}
use Rattle.std.specs.Prelude.{AllPairs, IsPermutation, IsSorted, bytes_eq}
use Rattle.std.specs.Cmp.Lexicographic.{slice_cmp}
use Rattle.std.specs.Ordering.{is_eq, is_lt, nat_cmp, ordering_reverse}
use Rattle.std.specs.declared.cmp.Ordering.{Ordering}
use Rattle.std.specs.declared.cmp.Ordering.TheVariants.{Less, Equal, Greater}
use Rattle.std.proofs.lemmas.Cmp.{nat_list_cmp_total}
use Rattle.std.proofs.lemmas.Map.Keys.{IsDistinct-IsPermutation, IsDistinct-from_apart, apart_from_distinct}
use Rattle.std.proofs.lemmas.Map.Text.{is_eq-slice_cmp}
use Rattle.std.proofs.lemmas.Slice.Eq.{bytes_eq-Decides}
use Rattle.std.proofs.lemmas.Bool.{cases_lt}
use denote.Ref.{Bor}

-- the order of texts in memory, byte by byte
abbrev pub text_order : Bor (List ℕ) → Bor (List ℕ) → Ordering
text_order x y = slice_cmp nat_cmp x.now y.now

-- of the first n texts none is equal to the next
abbrev pub DifferUpTo : List (Bor (List ℕ)) → ℕ → Type 0
DifferUpTo xs n =
    (i : ℕ) (d : Bor (List ℕ)) → i + 1 < n → (get_or xs i d).now ≢ (get_or xs (i + 1) d).now

-- no two texts are equal
abbrev pub AreApart : List (Bor (List ℕ)) → Type 0
AreApart xs = AllPairs (λ x y. x.now ≢ y.now) xs

not_true : (b : Bool) → (b ≡ true → ⊥) → b ≡ false
not_true true h = absurd (h refl)
not_true false h = refl

-- texts that differ, the second not before the first, rise
rises : (x y : List ℕ) → is_lt (slice_cmp nat_cmp y x) ≡ false → x ≢ y
    → slice_cmp nat_cmp x y ≡ Less
rises x y sorted differ = by_order (slice_cmp nat_cmp y x) refl
  where
    by_order : (o : Ordering) → slice_cmp nat_cmp y x ≡ o → slice_cmp nat_cmp x y ≡ Less
    by_order Less e = absurd (cc (e, sorted))
    by_order Equal e =
        absurd (differ (sym ((bytes_eq-Decides y x).0 (sym (is_eq-slice_cmp y x) ∙ ap is_eq e))))
    by_order Greater e = nat_list_cmp_total.antisymm x y ∙ ap ordering_reverse e

-- a text is not before itself
below_differs : (x y : List ℕ) → slice_cmp nat_cmp x y ≡ Less → x ≢ y
below_differs x y less same =
    let equal = is_eq-slice_cmp x y ∙ (bytes_eq-Decides x y).1 same in
    cc (equal, less)

-- in rising texts each is below all later ones
all_rise : (xs : List (Bor (List ℕ))) → IsSorted text_order xs → DifferUpTo xs (length xs)
    → (j i : ℕ) (d : Bor (List ℕ)) → i < j → j < length xs
    → text_order (get_or xs i d) (get_or xs j d) ≡ Less
all_rise xs sorted differ zero i d lt within = absurd (omega (arith, lt))
all_rise xs sorted differ (suc j) i d lt within = elim (cases_lt i j) [
  | inl before ↦
      nat_list_cmp_total.trans (get_or xs i d).now (get_or xs j d).now (get_or xs (suc j) d).now
      (all_rise xs sorted differ j i d before (omega (arith, within))) step
  | inr last ↦ rw (at_last last) step
]
  where
    at_last : j ≤ i → i ≡ j
    at_last last = omega (arith, lt, last)

    one : j + 1 ≡ suc j
    one = omega arith

    step : text_order (get_or xs j d) (get_or xs (suc j) d) ≡ Less
    step =
        rw one at (rises _ _ (sorted j d (omega arith) (omega (arith, within)))
        (differ j d (omega (arith, within))))

-- sorted texts of which none is equal to the next are apart
pub apart_in_order : (xs : List (Bor (List ℕ))) → IsSorted text_order xs → DifferUpTo xs (length xs)
    → AreApart xs
apart_in_order xs sorted differ i j d lt within =
    below_differs _ _ (all_rise xs sorted differ j i d lt within)

abbrev same_text : Bor (List ℕ) → Bor (List ℕ) → Bool
same_text x y = bytes_eq x.now y.now

flips : (x y : Bor (List ℕ)) → same_text x y ≡ same_text y x
flips x y = either (same_text x y) (same_text y x) (λ e. turn x y e) (λ e. turn y x e)
  where
    turn : (x y : Bor (List ℕ)) → same_text x y ≡ true → same_text y x ≡ true
    turn x y e = (bytes_eq-Decides y.now x.now).1 (sym ((bytes_eq-Decides x.now y.now).0 e))

    either : (a b : Bool) → (a ≡ true → b ≡ true) → (b ≡ true → a ≡ true) → a ≡ b
    either true b f g = sym (f refl)
    either false true f g = g refl
    either false false f g = refl

-- texts that are apart stay so in another order
pub apart_permuted : (xs ys : List (Bor (List ℕ))) → IsPermutation xs ys → AreApart xs → AreApart ys
apart_permuted xs ys moved apart i j d lt within same =
    let distinct =
    IsDistinct-from_apart same_text xs
    (λ a b c below short. not_true _
    (λ e. apart a b c below short ((bytes_eq-Decides _ _).0 e))) in
    let still =
    apart_from_distinct same_text ys i j d
    (IsDistinct-IsPermutation same_text flips xs ys moved distinct) lt within in
    cc ((bytes_eq-Decides _ _).1 same, still)
