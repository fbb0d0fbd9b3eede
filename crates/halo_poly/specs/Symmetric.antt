-- Symmetric statuses: so many of a list exist, told by the products of its parts.
use Rattle.std.specs.Prelude.{◌≡◌, ◌⊎◌, ℕ, zero, suc, ◌-◌, ◌≤◌, Bool, false, nat_eq, nat_le, List, [], ◌∷◌, ◌++◌, length, map, ⊤, ℤ, pos, negsuc, ◌*ℤ◌}
use Rattle.halo_sums.specs.Sums.{count_true, indicator, int_sum_over, numbers_from}
use Rattle.halo_sums.specs.Choices.{choose}
use Rattle.halo_sums.specs.Coefficients.{alternating}
use Rattle.halo_poly.specs.Poly.{value_on}

-- the parts of a list that have j of its items
abbrev pub parts_of : {X : Type 0} → ℕ → List X → List (List X)
parts_of zero xs = [] ∷ []
parts_of (suc j) [] = []
parts_of (suc j) (x ∷ xs) = map (λ part. x ∷ part) (parts_of j xs) ++ parts_of (suc j) xs

-- the product of some numbers
abbrev pub product_of : List ℤ → ℤ
product_of [] = pos 1
product_of (z ∷ zs) = z *ℤ product_of zs

-- the sum of the products of all parts with j numbers (the elementary symmetric sum)
abbrev pub symmetric_sum : ℕ → List ℤ → ℤ
symmetric_sum j zs = int_sum_over (parts_of j zs) product_of

-- the sum over j of (-1)^(j - r) C(j - 1, r - 1) times the j-th symmetric sum
abbrev pub at_least_sum : ℕ → List ℤ → ℤ
at_least_sum r zs =
    int_sum_over (numbers_from r (suc (length zs) - r))
    (λ j. alternating (j - r) (pos (choose (j - 1) (r - 1)) *ℤ symmetric_sum j zs))

-- the sum over j of (-1)^(j - r) C(j, r) times the j-th symmetric sum
abbrev pub exactly_sum : ℕ → List ℤ → ℤ
exactly_sum r zs =
    int_sum_over (numbers_from r (suc (length zs) - r))
    (λ j. alternating (j - r) (pos (choose j r) *ℤ symmetric_sum j zs))

-- where statuses exist or not, at least r of them exist where this sum is 1, and else it is 0
abbrev pub AtLeastIsSum : Type 0
AtLeastIsSum =
    (r : ℕ) (bs : List Bool) → 1 ≤ r
    → indicator (nat_le r (count_true bs)) ≡ at_least_sum r (map indicator bs)

-- and exactly r
abbrev pub ExactlyIsSum : Type 0
ExactlyIsSum =
    (r : ℕ) (bs : List Bool)
    → indicator (nat_eq (count_true bs) r) ≡ exactly_sum r (map indicator bs)

-- the j-th symmetric sum counts the parts with j statuses that exist whole
abbrev pub SymmetricSumCounts : Type 0
SymmetricSumCounts =
    (j : ℕ) (bs : List Bool) → symmetric_sum j (map indicator bs) ≡ pos (choose (count_true bs) j)

-- a polynomial of n lives is of a status: its value on each set is 0 or 1
abbrev pub IsOfStatus : ℕ → List ℤ → Type 0
IsOfStatus n p = (s : List Bool) → length s ≡ n → (value_on p s ≡ pos 0) ⊎ (value_on p s ≡ pos 1)

-- and so each of a list
abbrev pub AreOfStatuses : ℕ → List (List ℤ) → Type 0
AreOfStatuses n [] = ⊤
AreOfStatuses n (p ∷ ps) = IsOfStatus n p × AreOfStatuses n ps

-- whether a value is 1
abbrev pub is_one : ℤ → Bool
is_one (pos n) = nat_eq n 1
is_one (negsuc n) = false

-- on how many of some polynomials a set has the value 1
abbrev pub count_on : List (List ℤ) → List Bool → ℕ
count_on ps s = count_true (map (λ p. is_one (value_on p s)) ps)
