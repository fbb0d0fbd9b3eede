-- Which lives are there at a time of an outcome.
use Rattle.std.specs.Prelude.{ℕ, Bool, false, nat_le, List, [], ◌∷◌, get_or, Option, Some, None}
use Rattle.halo_model.specs.Life.{after_first}
use Rattle.halo_model.specs.Outcome.{Exit, Outcome}

-- a life is there at time t where it leaves in year t or later; one that was gone before is never
-- there
abbrev pub there : ℕ → Option Exit → Bool
there t None = false
there t (Some e) = nat_le t e.year

-- the lives that are there at time t, by their numbers
abbrev pub lives_at : ℕ → Outcome → ℕ → Bool
lives_at t o i = there t (get_or o i None)

-- the set of the lives that are there, where life i is looked at at a time of its own
abbrev pub there_at : (ℕ → ℕ) → Outcome → List Bool
there_at times [] = []
there_at times (way ∷ o) = there (times 0) way ∷ there_at (after_first times) o
