-- How large a coefficient can be.
use Rattle.std.proofs.Common.{◌≡◌, ℕ, zero, suc, ◌-◌, ◌^◌, arith, List, [], ◌∷◌, Bool, true, false, ℤ, pos, ◌-ℤ◌, ◌≤ℤ◌, neg_ℤ}
use Rattle.std.proofs.Math.Nat.{pow-suc}
use Rattle.std.proofs.lemmas.Int.{ints}
use Rattle.halo_sums.specs.Sums.{indicator}
use Rattle.halo_sums.specs.Sets.{size_of}
use Rattle.halo_sums.specs.Coefficients.{coefficient}
use Rattle.halo_sums.proofs.Coefficients.{coefficient-empty, coefficient-with, coefficient-without}

-- the least and the greatest coefficient of a set of so many
abbrev least : ℕ → ℤ
least zero = pos 0
least (suc n) = neg_ℤ (pos (2 ^ n))

abbrev greatest : ℕ → ℤ
greatest zero = pos 1
greatest (suc n) = pos (2 ^ n)

abbrev IsBetween : ℕ → ℤ → Type 0
IsBetween size z = (least size ≤ℤ z) × (z ≤ℤ greatest size)

indicator-between : (b : Bool) → IsBetween 0 (indicator b)
indicator-between true = (omega (arith, ints), omega (arith, ints))
indicator-between false = (omega (arith, ints), omega (arith, ints))

difference-between : (size : ℕ) (a b : ℤ) → IsBetween size a → IsBetween size b → IsBetween (suc size) (a -ℤ b)
difference-between zero a b h k = (omega (arith, ints, h.0, h.1, k.0, k.1), omega (arith, ints, h.0, h.1, k.0, k.1))
difference-between (suc size) a b h k =
    (omega (arith, ints, pow-suc 2 size, h.0, h.1, k.0, k.1), omega (arith, ints, pow-suc 2 size, h.0, h.1, k.0, k.1))

coefficient-between : (holds : List Bool → Bool) (s : List Bool)
    → IsBetween (size_of s) (coefficient (λ u. indicator (holds u)) s)
coefficient-between holds [] = rw (coefficient-empty (λ u. indicator (holds u))) (indicator-between (holds []))
coefficient-between holds (false ∷ s) =
    rw (coefficient-without (λ u. indicator (holds u)) s) (coefficient-between (λ u. holds (false ∷ u)) s)
coefficient-between holds (true ∷ s) = rw (coefficient-with (λ u. indicator (holds u)) s)
    (difference-between (size_of s) _ _ (coefficient-between (λ u. holds (true ∷ u)) s)
    (coefficient-between (λ u. holds (false ∷ u)) s))

from-between : (size : ℕ) (z : ℤ) → IsBetween size z → (neg_ℤ (pos (2 ^ (size - 1))) ≤ℤ z) × (z ≤ℤ pos (2 ^ (size - 1)))
from-between zero z h = (omega (arith, ints, h.0), h.1)
from-between (suc size) z h = let e : suc size - 1 ≡ size = omega arith in rw e h

pub coefficients-bounded : (holds : List Bool → Bool) (s : List Bool)
    → (neg_ℤ (pos (2 ^ (size_of s - 1))) ≤ℤ coefficient (λ u. indicator (holds u)) s)
    × (coefficient (λ u. indicator (holds u)) s ≤ℤ pos (2 ^ (size_of s - 1)))
coefficients-bounded holds s = from-between (size_of s) _ (coefficient-between holds s)
