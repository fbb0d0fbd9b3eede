-- What one step does to a value of a set of lives.
use Rattle.std.specs.Prelude.{◌≡◌, ℕ, ◌+◌, ◌*◌, pos, ◌+ℤ◌}
use Rattle.halo_num.specs.Chance.{EnclosesChance}
use Rattle.halo_num.specs.Ends.{Ends, fine}
use Rattle.halo_annuity.specs.Worth.{Carries}

-- a value of a set is carried back by a year: by the discount factor of the year times the chance
-- of the set to survive it
pub record CarriesBy (discount survival later result : Ends) : Type 0 where
  pub chance : Ends
  pub product : (n m d e v w : ℕ) →
      EnclosesChance n d v discount → EnclosesChance m e w survival →
      EnclosesChance (n * m) (d * e) (v + w + 1) chance
  pub carries : Carries later chance result

-- a value grows by so many ones
pub record GrowsBy (ones : ℕ) (before result : Ends) : Type 0 where
  pub lo : result.lo ≡ before.lo +ℤ pos (ones * fine)
  pub hi : result.hi ≡ before.hi +ℤ pos (ones * fine)
