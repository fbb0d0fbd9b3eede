-- Sets of small numbers. A set is a list that says of 0, 1, 2 .. in turn whether the number is in
-- it.
use Rattle.std.specs.Prelude.{ℕ, zero, suc, Bool, true, false, List, [], ◌∷◌, ◌++◌, map, get_or}

-- whether a number is in a set
abbrev pub in_set : List Bool → ℕ → Bool
in_set s i = get_or s i false

-- how many numbers are in a set
abbrev pub size_of : List Bool → ℕ
size_of [] = 0
size_of (true ∷ s) = suc (size_of s)
size_of (false ∷ s) = size_of s

-- all sets of numbers below n
abbrev pub sets : ℕ → List (List Bool)
sets zero = [] ∷ []
sets (suc n) = map (λ u. false ∷ u) (sets n) ++ map (λ u. true ∷ u) (sets n)

-- all subsets of a set
abbrev pub subsets : List Bool → List (List Bool)
subsets [] = [] ∷ []
subsets (false ∷ s) = map (λ u. false ∷ u) (subsets s)
subsets (true ∷ s) = map (λ u. false ∷ u) (subsets s) ++ map (λ u. true ∷ u) (subsets s)
