-- The laws of coefficients and of masks.
use Rattle.std.specs.Prelude.{◌≡◌, ℕ, ◌-◌, ◌^◌, ◌<◌, Bool, List, ℤ, pos, neg_ℤ, ◌≤ℤ◌}
use Rattle.halo_sums.specs.Sums.{indicator, int_sum_over, numbers_from}
use Rattle.halo_sums.specs.Sets.{in_set, sets, size_of, subsets}
use Rattle.halo_sums.specs.Masks.{bits, has_bit}
use Rattle.halo_sums.specs.Coefficients.{coefficient}

-- the coefficients over the subsets of a set add up to the function there
abbrev pub CoefficientsAddUp : Type 0
CoefficientsAddUp =
    (f : List Bool → ℤ) (u : List Bool) → int_sum_over (subsets u) (coefficient f) ≡ f u

-- and no other numbers do so on all sets
abbrev pub CoefficientsAreUnique : Type 0
CoefficientsAreUnique =
    (f c : List Bool → ℤ) → ((u : List Bool) → int_sum_over (subsets u) c ≡ f u) → (s : List Bool)
    → c s ≡ coefficient f s

-- where the function is 0 or 1, the coefficient of a set of s numbers is at most 2^(s - 1) in size,
-- and that of the empty set at most 1
abbrev pub CoefficientsAreBounded : Type 0
CoefficientsAreBounded = (holds : List Bool → Bool) (s : List Bool)
    → (neg_ℤ (pos (2 ^ (size_of s - 1))) ≤ℤ coefficient (λ u. indicator (holds u)) s)
    × (coefficient (λ u. indicator (holds u)) s ≤ℤ pos (2 ^ (size_of s - 1)))

-- the masks below 2^n stand for the sets of numbers below n, each for one
abbrev pub MasksAreSets : Type 0
MasksAreSets =
    (n : ℕ) (g : List Bool → ℤ)
    → int_sum_over (numbers_from 0 (2 ^ n)) (λ mask. g (bits n mask)) ≡ int_sum_over (sets n) g

-- the numbers in the set of a mask are those of its bits
abbrev pub BitsAreMembers : Type 0
BitsAreMembers = (n mask i : ℕ) → i < n → has_bit mask i ≡ in_set (bits n mask) i
