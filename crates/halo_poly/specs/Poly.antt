-- Polynomials of lives as lists of coefficients, and their values on sets of lives.
use Rattle.std.specs.Prelude.{◌≡◌, ℕ, ◌≤◌, ◌^◌, Bool, false, List, bit_and, get_or, length, map, ℤ, pos, unsigned_abs}
use Rattle.halo_sums.specs.Sums.{int_sum_over}
use Rattle.halo_sums.specs.Sets.{subsets}
use Rattle.halo_sums.specs.SetMasks.{CountsSets, mask_of}
use Rattle.halo_poly.specs.declared.poly.TheConstants.{LARGEST_COEFFICIENT}

-- a coefficient is at most 10^15 in size
abbrev pub IsSmall : ℤ → Type 0
IsSmall z = unsigned_abs z ≤ LARGEST_COEFFICIENT

-- the coefficient of the set of a mask
abbrev pub coefficient_at : List ℤ → ℕ → ℤ
coefficient_at p mask = get_or p mask (pos 0)

-- there are m coefficients, and each is small
pub record AreCoefficients (m : ℕ) (p : List ℤ) : Type 0 where
  pub full : length p ≡ m
  pub small : (mask : ℕ) → IsSmall (coefficient_at p mask)

-- a polynomial of m coefficients, one for each set of some lives
pub record IsPoly (m : ℕ) (p : List ℤ) : Type 0 where
  pub sets : CountsSets m
  pub full : length p ≡ m
  pub small : (mask : ℕ) → IsSmall (coefficient_at p mask)

-- the coefficient of a set
abbrev pub coefficient_of : List ℤ → List Bool → ℤ
coefficient_of p s = coefficient_at p (mask_of s)

-- the value on a set: the sum of the coefficients over its subsets
abbrev pub value_on : List ℤ → List Bool → ℤ
value_on p s = int_sum_over (subsets s) (coefficient_of p)

-- the values of some polynomials on a set
abbrev pub values_on : List (List ℤ) → List Bool → List ℤ
values_on ps s = map (λ p. value_on p s) ps

-- whether the mask of a set is marked
abbrev pub is_marked : List Bool → List Bool → Bool
is_marked marked s = get_or marked (mask_of s) false

-- whether the mask of the lives that a set has in common with some lives is marked
abbrev pub is_marked_within : List Bool → ℕ → List Bool → Bool
is_marked_within marked named s = get_or marked (bit_and (mask_of s) named) false

-- the count at the mask of a set
abbrev pub count_at : List ℕ → List Bool → ℕ
count_at counts s = get_or counts (mask_of s) 0

-- something holds of each set of n lives
abbrev pub EachSetOf : ℕ → (List Bool → Type 0) → Type 0
EachSetOf n Holds = (s : List Bool) → length s ≡ n → Holds s

-- and of each set of the lives that have m sets
abbrev pub EachOfSets : ℕ → (List Bool → Type 0) → Type 0
EachOfSets m Holds = (n : ℕ) → m ≡ 2 ^ n → EachSetOf n Holds
