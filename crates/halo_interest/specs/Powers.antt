-- What 1 is worth at a start if it is due some years later: the product of the years' discount
-- factors, v^t where all are v.
use Rattle.std.specs.Prelude.{◌≡◌, ℕ, ◌-◌, ◌*◌, ◌≤◌, List, pos, get_or}
use Rattle.halo_interest.specs.declared.powers.TheConstants.{LAST_TIME}
use Rattle.halo_sums.specs.Sums.{numbers_from, product_over}
use Rattle.halo_num.specs.Chance.{EnclosesChance}
use Rattle.halo_num.specs.Ends.{Ends, IsWithin, fine}

-- the value for t years
abbrev pub power_at : List Ends → ℕ → Ends
power_at powers t = get_or powers t (record { lo = pos 0; hi = pos 0 })

-- each power up to the last time is from 0 to 1
pub record AreParts (powers : List Ends) : Type 0 where
  pub each : (t : ℕ) → t ≤ LAST_TIME → IsWithin (power_at powers t) (pos 0) (pos fine)

-- i encloses the product of the discount factors n / d of the t years from year s, at most 3t
-- wide, from 0 to 1
abbrev pub IsPower : (n d : ℕ → ℕ) → ℕ → ℕ → Ends → Type 0
IsPower n d s t i = EnclosesChance
    (product_over (numbers_from s t) n) (product_over (numbers_from s t) d) (3 * t) i

-- the list has each power from year s up to the last time, and that of no years is exactly 1
pub record ArePowers (n d : ℕ → ℕ) (s : ℕ) (powers : List Ends) : Type 0 where
  pub none : power_at powers 0 ≡ record { lo = pos fine; hi = pos fine }
  pub each : (t : ℕ) → t ≤ LAST_TIME - s → IsPower n d s t (power_at powers t)
