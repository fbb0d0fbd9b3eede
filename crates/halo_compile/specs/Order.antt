-- All sets of lives of a form, one after the other, as masks.
use Rattle.std.specs.Prelude.{◌≡◌, ℕ, ◌<◌, ◌^◌, All, List, map}
use Rattle.halo_sums.specs.Masks.{bits}
use Rattle.halo_sums.specs.SetsInOrder.{sets_in_order}

-- all sets of n lives in canonical order
pub record AreSetsInOrder (n : ℕ) (sets : List ℕ) : Type 0 where
  pub order : map (bits n) sets ≡ sets_in_order n
  pub below : All (λ set. set < 2 ^ n) sets
