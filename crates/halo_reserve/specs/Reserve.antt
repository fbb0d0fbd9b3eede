-- A reserve as an interval: what is still to be paid, less the premiums still to come.
use Rattle.std.specs.Prelude.{pos, ◌-ℤ◌, ◌*ℤ◌, ◌≤ℤ◌, neg_ℤ}
use Rattle.halo_num.specs.Ends.{Ends, IsWithin, fine}
use Rattle.halo_num.specs.Rounding.{IsCeiling, IsFloor}
use Rattle.halo_num.specs.declared.limits.TheConstants.{GREATEST_DIVISOR, GREATEST_END, GREATEST_FACTOR}

-- the sizes with which the product of the premium and `due`, and the difference, can be told
pub record CanTakeOff (later premium due : Ends) : Type 0 where
  pub later_in : IsWithin later (neg_ℤ (pos GREATEST_END)) (pos GREATEST_END)
  pub premium_from : pos 0 ≤ℤ premium.lo
  pub premium_in : premium.hi ≤ℤ pos GREATEST_FACTOR
  pub due_from : pos 0 ≤ℤ due.lo
  pub due_in : due.hi ≤ℤ pos GREATEST_DIVISOR

-- The ends of `later` less the premium times `due`: the lower one has the greatest product taken
-- off, rounded up, and the upper one the least, rounded down.
pub record HasTakenOff (later premium due reserve : Ends) : Type 0 where
  pub low : IsCeiling (later.lo -ℤ reserve.lo) (premium.hi *ℤ due.hi) (pos fine)
  pub high : IsFloor (later.hi -ℤ reserve.hi) (premium.lo *ℤ due.lo) (pos fine)
