-- Inclusion and exclusion.
use Rattle.std.specs.Prelude.{ℕ, zero, suc, ◌-◌, Bool, List, ℤ, neg_ℤ}
use Rattle.halo_sums.specs.Sums.{int_sum_over}
use Rattle.halo_sums.specs.Sets.{size_of, subsets}

-- (-1)^n times z
abbrev pub alternating : ℕ → ℤ → ℤ
alternating zero z = z
alternating (suc n) z = neg_ℤ (alternating n z)

-- the coefficient of a set s for a function f of sets: the sum over the subsets u of s of (-1)^(|s|
-- - |u|) f(u)
unfoldable pub coefficient : (List Bool → ℤ) → List Bool → ℤ
coefficient f s = int_sum_over (subsets s) (λ u. alternating (size_of s - size_of u) (f u))
