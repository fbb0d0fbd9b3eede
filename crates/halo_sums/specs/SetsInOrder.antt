-- All sets of some numbers, one after the other in canonical order.
use Rattle.std.specs.Prelude.{ℕ, zero, suc, List, [], ◌∷◌, ◌++◌, Bool, true, false, flat_map, map, replicate}
use Rattle.halo_sums.specs.Sums.{numbers_from}

-- the sets of n numbers that have k numbers, in the order of their numbers, compared one by one
-- from the first: those with the first number come before those without it
abbrev pub sets_of_size : ℕ → ℕ → List (List Bool)
sets_of_size zero n = replicate n false ∷ []
sets_of_size (suc k) zero = []
sets_of_size (suc k) (suc n) =
    map (λ s. true ∷ s) (sets_of_size k n) ++ map (λ s. false ∷ s) (sets_of_size (suc k) n)

-- all sets of n numbers in canonical order: first by how many numbers they have
abbrev pub sets_in_order : ℕ → List (List Bool)
sets_in_order n = flat_map (λ k. sets_of_size k n) (numbers_from 0 (suc n))

-- the sets that begin with a set of the first numbers, and have k of the n numbers behind them
abbrev pub sets_with : List Bool → ℕ → ℕ → List (List Bool)
sets_with start k n = map (λ s. start ++ s) (sets_of_size k n)
