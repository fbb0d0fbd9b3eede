-- A set's product over its lives, by its first life.
use Rattle.std.specs.Prelude.{◌≡◌, ℕ, ◌+◌, ◌-◌, ◌*◌, ◌^◌, ◌<◌, List, true}
use Rattle.halo_sums.specs.Masks.{has_bit}
use Rattle.halo_num.specs.Chance.{EnclosesChance}
use Rattle.halo_num.specs.Ends.{Ends}
use Rattle.halo_chance.specs.Enclosed.{entry_at}
use Rattle.halo_life.specs.Lists.{entry}

-- the product of the entry of a set without its first life and of that life's chance, 1 wider than
-- the two
pub record IsByFirst (lives : List Ends) (set : ℕ) (entries : List Ends) (result : Ends)
    : Type 0 where
  pub first : ℕ
  pub there : has_bit set first ≡ true
  pub less : set - 2 ^ first < set
  pub product : (k m d e v w : ℕ) → EnclosesChance k d v (entry entries (set - 2 ^ first)) →
      EnclosesChance m e w (entry_at lives first) →
      EnclosesChance (k * m) (d * e) (v + w + 1) result
