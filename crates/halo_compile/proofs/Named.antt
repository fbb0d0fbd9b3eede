-- How many of the next lives a name holds of.
use Rattle.std.proofs.Common.{◌≡◌, ℕ, suc, ◌+◌, Bool, cond, ap}
use Rattle.halo_sums.specs.Sums.{numbers_from, sum_over}
use Rattle.halo_sums.proofs.Numbers.{sum_over-numbers_next}

abbrev pub count_named : (ℕ → Bool) → ℕ → ℕ
count_named name n = sum_over (numbers_from 0 n) (λ i. cond (name i) 1 0)

-- one life more
pub count-next : (name : ℕ → Bool) (n : ℕ)
    → count_named name (suc n) ≡ cond (name 0) 1 0 + count_named (λ i. name (suc i)) n
count-next name n = ap (λ m. cond (name 0) 1 0 + m) (sum_over-numbers_next n 0 (λ i. cond (name i) 1 0))
