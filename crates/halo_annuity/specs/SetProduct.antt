-- Products over the lives of a set.
use Rattle.std.specs.Prelude.{ℕ, ◌*◌, Bool, true, false, List, [], ◌∷◌}
use Rattle.halo_model.specs.Life.{after_first}

-- the product of the numbers of the lives in a set
abbrev pub product_in : (ℕ → ℕ) → List Bool → ℕ
product_in f [] = 1
product_in f (true ∷ s) = f 0 * product_in (after_first f) s
product_in f (false ∷ s) = product_in (after_first f) s
