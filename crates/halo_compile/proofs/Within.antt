-- A mask within a mask is a set within a set, and a set that is not has another life.
use Rattle.std.proofs.Common.{◌≡◌, ℕ, zero, suc, ◌^◌, ◌<◌, List, [], ◌∷◌, Bool, true, false, ◌&&◌, sym, refl, ◌∙◌}
use Rattle.halo_sums.specs.Masks.{bits, has_bit}
use Rattle.halo_sums.specs.Sets.{in_set}
use Rattle.halo_sums.proofs.Masks.{has_bit-bits}
use Rattle.halo_model.specs.Backward.{lies_in}
use Rattle.halo_model.specs.Life.{after_first}
use Rattle.halo_sums.specs.Within.{is_within}
use Rattle.halo_life.proofs.Within.{bit-below, bit-of-set, within-by, within-has}

and-left : (a b : Bool) → (a && b) ≡ true → a ≡ true
and-left true b e = refl
and-left false b e = absurd (cc)

and-right : (a b : Bool) → (a && b) ≡ true → b ≡ true
and-right true b e = e
and-right false b e = absurd (cc)

lies-all : (s : List Bool) (U : ℕ → Bool) → lies_in s U ≡ true → (i : ℕ) → in_set s i ≡ true → U i ≡ true
lies-all [] U h i e = absurd (cc)
lies-all (false ∷ s) U h zero e = absurd (cc)
lies-all (false ∷ s) U h (suc i) e = lies-all s (after_first U) h i e
lies-all (true ∷ s) U h zero e = and-left (U 0) (lies_in s (after_first U)) h
lies-all (true ∷ s) U h (suc i) e = lies-all s (after_first U) (and-right (U 0) (lies_in s (after_first U)) h) i e

all-lie : (s : List Bool) (U : ℕ → Bool) → ((i : ℕ) → in_set s i ≡ true → U i ≡ true) → lies_in s U ≡ true
all-lie [] U h = refl
all-lie (false ∷ s) U h = all-lie s (after_first U) (λ i e. h (suc i) e)
all-lie (true ∷ s) U h = rw (h 0 refl) (all-lie s (after_first U) (λ i e. h (suc i) e))

same-tests : (a b : Bool) → (a ≡ true → b ≡ true) → (b ≡ true → a ≡ true) → a ≡ b
same-tests true b h k = sym (h refl)
same-tests false true h k = k refl
same-tests false false h k = refl

pub within-is : (n mask alive : ℕ) → mask < 2 ^ n → is_within mask alive ≡ lies_in (bits n mask) (has_bit alive)
within-is n mask alive below = same-tests (is_within mask alive) (lies_in (bits n mask) (has_bit alive))
    (λ within. all-lie
    (bits n mask) (has_bit alive) (λ i inside. within-has mask alive within i (bit-of-set n mask i inside)))
    (λ lies. within-by mask alive (λ i there. lies-all
    (bits n mask) (has_bit alive) lies i (sym (has_bit-bits n mask i (bit-below n mask i below there)) ∙ there)))

-- a set that does not lie in another has a life that is not in it
pub record HasOther (s : List Bool) (U : ℕ → Bool) : Type 0 where
  pub life : ℕ
  pub of_it : in_set s life ≡ true
  pub other : U life ≡ false

pub has-other : (s : List Bool) (U : ℕ → Bool) → lies_in s U ≡ false → HasOther s U
has-other [] U e = absurd (cc)
has-other (false ∷ s) U e = let h = has-other s (after_first U) e in
    record { life = suc h.life; of_it = h.of_it; other = h.other }
has-other (true ∷ s) U e = by-first (U 0) refl e (λ h. has-other s (after_first U) h)
  where
    by-first : (is : Bool) → U 0 ≡ is → (is && lies_in s (after_first U)) ≡ false
        → (lies_in s (after_first U) ≡ false → HasOther s (after_first U)) → HasOther (true ∷ s) U
    by-first false f g rest = record { life = 0; of_it = refl; other = f }
    by-first true f g rest = let h = rest g in record { life = suc h.life; of_it = h.of_it; other = h.other }
