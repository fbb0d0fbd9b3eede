-- Sums over the numbers below a bound, one number more.
use Rattle.std.proofs.Common.{◌≡◌, ℕ, zero, suc, ◌+◌, ◌<◌, ◌≤◌, arith, ap, refl, ◌∙◌, [], ◌∷◌, ℤ, pos, ◌+ℤ◌, ⊎_elim}
use Rattle.std.proofs.lemmas.Bool.{cases_lt}
use Rattle.std.proofs.lemmas.Int.{ints}
use Rattle.halo_sums.specs.Sums.{int_sum_over, numbers_from, sum_over}
use Rattle.halo_sums.proofs.IntSums.{int_sum_over-append}
use Rattle.halo_sums.proofs.Sums.{sum_over-append}
use Rattle.halo_sums.proofs.Numbers.{numbers_from-split}

pub int_sum_over-numbers_push : (n : ℕ) (f : ℕ → ℤ)
    → int_sum_over (numbers_from 0 (n + 1)) f ≡ int_sum_over (numbers_from 0 n) f +ℤ f n
int_sum_over-numbers_push n f =
    ap (λ ns. int_sum_over ns f) (numbers_from-split n 1)
    ∙ int_sum_over-append (numbers_from 0 n) (n ∷ []) f
    ∙ omega (arith, ints)

pub sum_over-numbers_push : (n : ℕ) (f : ℕ → ℕ)
    → sum_over (numbers_from 0 (n + 1)) f ≡ sum_over (numbers_from 0 n) f + f n
sum_over-numbers_push n f =
    ap (λ ns. sum_over ns f) (numbers_from-split n 1)
    ∙ sum_over-append (numbers_from 0 n) (n ∷ []) f
    ∙ omega arith

-- numbers that add nothing may be left out behind the others
module _ (from : ℕ) where
  pub int_sum_over-skip : (f : ℕ → ℤ) (to : ℕ)
      → from ≤ to → ((i : ℕ) → from ≤ i → i < to → f i ≡ pos 0)
      → int_sum_over (numbers_from 0 to) f ≡ int_sum_over (numbers_from 0 from) f
  int_sum_over-skip f zero few none = let e : from ≡ 0 = omega (arith, few) in rw e refl
  int_sum_over-skip f (suc to) few none = ⊎_elim
      (λ (h : from < suc to).
      let more : suc to ≡ to + 1 = omega arith in
      ap (λ m. int_sum_over (numbers_from 0 m) f) more ∙ (omega (
        arith,
        ints,
        int_sum_over-numbers_push to f,
        none to (omega (arith, h)) (omega arith),
        int_sum_over-skip f to (omega (arith, h)) (λ i after before. none i after (omega (arith, before))),
      )))
      (λ (h : suc to ≤ from). let e : from ≡ suc to = omega (arith, few, h) in rw e refl)
      (cases_lt from (suc to))

  pub sum_over-skip : (f : ℕ → ℕ) (to : ℕ)
      → from ≤ to → ((i : ℕ) → from ≤ i → i < to → f i ≡ 0)
      → sum_over (numbers_from 0 to) f ≡ sum_over (numbers_from 0 from) f
  sum_over-skip f zero few none = let e : from ≡ 0 = omega (arith, few) in rw e refl
  sum_over-skip f (suc to) few none = ⊎_elim
      (λ (h : from < suc to).
      let more : suc to ≡ to + 1 = omega arith in
      ap (λ m. sum_over (numbers_from 0 m) f) more ∙ (omega (
        arith,
        sum_over-numbers_push to f,
        none to (omega (arith, h)) (omega arith),
        sum_over-skip f to (omega (arith, h)) (λ i after before. none i after (omega (arith, before))),
      )))
      (λ (h : suc to ≤ from). let e : from ≡ suc to = omega (arith, few, h) in rw e refl)
      (cases_lt from (suc to))
