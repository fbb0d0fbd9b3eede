-- In which orders the lives leave that leave in one year.
use Rattle.std.specs.Prelude.{ℕ, nat_eq, List, [], ◌∷◌, flat_map, map}
use Rattle.std.specs.List.{position_or_len}
use Rattle.halo_sums.specs.Sums.{numbers_from}
use Rattle.halo_contract.specs.declared.ties.Ties.{Ties}
use Rattle.halo_contract.specs.declared.ties.Ties.TheVariants.{Declared, Even}

-- a list with x put in at each place
abbrev pub insertions : ℕ → List ℕ → List (List ℕ)
insertions x [] = (x ∷ []) ∷ []
insertions x (y ∷ ys) = (x ∷ y ∷ ys) ∷ map (λ zs. y ∷ zs) (insertions x ys)

-- all orders of some lives
abbrev pub orders : List ℕ → List (List ℕ)
orders [] = [] ∷ []
orders (x ∷ xs) = flat_map (insertions x) (orders xs)

-- the orders taken of n lives, each a list of their numbers: the one in which they are declared, or
-- with even ties all orders, each with equal chance
abbrev pub orders_taken : Ties → ℕ → List (List ℕ)
orders_taken Declared n = numbers_from 0 n ∷ []
orders_taken Even n = orders (numbers_from 0 n)

-- the rank of a life in an order: how many stand before it
abbrev pub rank_in : List ℕ → ℕ → ℕ
rank_in order i = position_or_len (λ j. nat_eq i j) order
