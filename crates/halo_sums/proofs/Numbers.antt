-- Sums over numbers in a row.
use Rattle.std.proofs.Common.{◌≡◌, ℕ, zero, suc, ◌+◌, ◌<◌, ◌≤◌, arith, refl, ap, ◌∙◌, ◌∷◌, ◌++◌, true, false, nat_eq, ℤ, pos, ◌+ℤ◌, ◌*ℤ◌, ⊎_elim}
use Rattle.std.proofs.lemmas.Bool.{cases_lt}
use Rattle.std.proofs.lemmas.Bool.Decides.{nat_tests}
use Rattle.std.proofs.lemmas.Int.{ints}
use Rattle.halo_sums.specs.Sums.{indicator, int_sum_over, numbers_from, sum_over}

-- equal at each of the numbers, equal in sum
pub int_sum_over-numbers_ext : (count first : ℕ) (f g : ℕ → ℤ) → ((i : ℕ) → first ≤ i → i < first + count → f i ≡ g i)
    → int_sum_over (numbers_from first count) f ≡ int_sum_over (numbers_from first count) g
int_sum_over-numbers_ext zero first f g h = refl
int_sum_over-numbers_ext (suc count) first f g h =
    ap (λ z. z +ℤ int_sum_over (numbers_from (suc first) count) f) (h first (omega arith) (omega arith))
    ∙ ap (λ z. g first +ℤ z)
    (int_sum_over-numbers_ext count (suc first) f g (λ i above below. h i (omega arith) (omega arith)))

pub sum_over-numbers_ext : (count first : ℕ) (f g : ℕ → ℕ) → ((i : ℕ) → first ≤ i → i < first + count → f i ≡ g i)
    → sum_over (numbers_from first count) f ≡ sum_over (numbers_from first count) g
sum_over-numbers_ext zero first f g h = refl
sum_over-numbers_ext (suc count) first f g h =
    omega (
      arith,
      h first (omega arith) (omega arith),
      sum_over-numbers_ext count (suc first) f g (λ i from to. h i (omega arith) (omega arith)),
    )

-- at one of the numbers, at most the sum
pub sum_over-numbers_one : (count first i : ℕ) (f : ℕ → ℕ)
    → first ≤ i → i < first + count → f i ≤ sum_over (numbers_from first count) f
sum_over-numbers_one zero first i f from before = absurd (omega arith)
sum_over-numbers_one (suc count) first i f from before = ⊎_elim
    (λ (later : first < i). omega (arith, sum_over-numbers_one count (suc first) i f (omega arith) (omega arith)))
    (λ (here : i ≤ first). let e : i ≡ first = omega arith in rw e (omega arith))
    (cases_lt first i)

-- the numbers from the next one on
pub sum_over-numbers_next : (count first : ℕ) (f : ℕ → ℕ)
    → sum_over (numbers_from (suc first) count) f ≡ sum_over (numbers_from first count) (λ i. f (suc i))
sum_over-numbers_next zero first f = refl
sum_over-numbers_next (suc count) first f = ap (λ n. f (suc first) + n) (sum_over-numbers_next count (suc first) f)

-- the numbers in two runs
pub numbers_from-add : (m n first : ℕ) → numbers_from first (m + n) ≡ numbers_from first m ++ numbers_from (first + m) n
numbers_from-add zero n first = let none : 0 + n ≡ n = omega arith in
    let here : first + 0 ≡ first = omega arith in rw (none, here)
numbers_from-add (suc m) n first = let more : suc m + n ≡ suc (m + n) = omega arith in let e : first + suc m
    ≡ suc first + m = omega arith in rw (more, e) (ap (λ ns. first ∷ ns) (numbers_from-add m n (suc first)))

-- the numbers from 0 on in two runs
pub numbers_from-split : (m n : ℕ) → numbers_from 0 (m + n) ≡ numbers_from 0 m ++ numbers_from m n
numbers_from-split m n = let e : 0 + m ≡ m = omega arith in
    numbers_from-add m n 0 ∙ ap (λ first. numbers_from 0 m ++ numbers_from first n) e

-- 0 at each of the numbers, 0 in sum
pub sum_over-numbers_none : (count first : ℕ) (f : ℕ → ℕ)
    → ((i : ℕ) → first ≤ i → f i ≡ 0) → sum_over (numbers_from first count) f ≡ 0
sum_over-numbers_none zero first f h = refl
sum_over-numbers_none (suc count) first f h =
    omega (arith, h first (omega arith), sum_over-numbers_none count (suc first) f (λ i from. h i (omega arith)))

nat_eq-above : (i k : ℕ) → k < i → nat_eq i k ≡ false
nat_eq-above i k h = grind (arith, nat_tests)

nat_eq-below : (i k : ℕ) → i < k → nat_eq i k ≡ false
nat_eq-below i k h = grind (arith, nat_tests)

nat_eq-same : (k : ℕ) → nat_eq k k ≡ true
nat_eq-same k = grind (arith, nat_tests)

pick-none : (count first k : ℕ) (h : ℕ → ℤ)
    → k < first → int_sum_over (numbers_from first count) (λ i. indicator (nat_eq i k) *ℤ h i) ≡ pos 0
pick-none zero first k h below = refl
pick-none (suc count) first k h below =
    rw (nat_eq-above first k below, pick-none count (suc first) k h (omega arith)) (omega (arith, ints))

-- a sum that picks out one of the numbers
pub int_sum_over-pick : (count first k : ℕ) (h : ℕ → ℤ)
    → first ≤ k → k < first + count → int_sum_over (numbers_from first count) (λ i. indicator (nat_eq i k) *ℤ h i) ≡ h k
int_sum_over-pick zero first k h above below = absurd (omega arith)
int_sum_over-pick (suc count) first k h above below = ⊎_elim
    (λ before. rw (nat_eq-below first k before, int_sum_over-pick count (suc first) k h (omega arith) (omega arith))
    (omega (arith, ints)))
    (λ reached. let e : first ≡ k = omega arith in
    rw (e, nat_eq-same k, pick-none count (suc k) k h (omega arith)) (omega (arith, ints)))
    (cases_lt first k)
