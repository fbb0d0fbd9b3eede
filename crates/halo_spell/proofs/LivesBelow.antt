-- The lives that a status names: they are below a bound where those of a list are, and have the names at their places.
use Rattle.std.proofs.Common.{◌≡◌, ℕ, zero, suc, ◌<◌, List, [], ◌∷◌, Some, arith, length, get_or, sym}
use Rattle.std.specs.Prelude.{slice_get}
use Rattle.std.proofs.lemmas.List.{get_or-map}
use Rattle.halo_status.specs.Naming.{AnyNamesLivesBelow, NamesLivesBelow, names_life}
use Rattle.halo_status.specs.StatusTree.{tree_of, trees_in}
use Rattle.halo_status.specs.declared.status.Status.{Status, Life}
use Rattle.halo_status.proofs.Shapes.{tree_of-Life}
use Rattle.halo_contract.specs.PlainContract.{life_names}
use Rattle.halo_contract.specs.declared.contract.LifeLine.{LifeLine}
use Rattle.halo_spell.specs.Canonical.{name_at}
use Rattle.halo_status.proofs.Agreement.{or-left, or-right, same}

pub below_at : (bound : ℕ) (ms : List Status) (k : ℕ) (s : Status) → slice_get ms k ≡ Some s
    → AnyNamesLivesBelow bound (trees_in ms) → NamesLivesBelow bound (tree_of s)
below_at bound [] k s at below = absurd cc
below_at bound (m ∷ ms) zero s at below =
    let is : m ≡ s = grind arith in rw (← is) (λ i named. below i (or-left _ _ named))
below_at bound (m ∷ ms) (suc k) s at below =
    below_at bound ms k s at (λ i named. below i (or-right (names_life i (tree_of m)) _ named))

-- the number of a life that a status is
pub life_below : (bound : ℕ) (now : Status) (i : ℕ) → now ≡ Life i → NamesLivesBelow bound (tree_of now) → i < bound
life_below bound now i is below = below i (rw (is, tree_of-Life i) (same i))

-- the name of a life is the name at its place
pub name_at-lives : (lives : List LifeLine) (i : ℕ) (d : LifeLine) → i < length lives
    → (get_or lives i d).name ≡ name_at (life_names lives) i
name_at-lives lives i d within = sym (get_or-map (λ (line : LifeLine). line.name) lives i d [] within)
