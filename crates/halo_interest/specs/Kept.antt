-- How an interest keeps its fractions: first in eight places, the rest of which stand at no
-- interest.
use Rattle.std.specs.Prelude.{◌≡◌, ℕ, ◌-◌, ◌≤◌, List, length, take, drop, replicate}
use Rattle.halo_interest.specs.declared.rate.Rate.{Rate}
use Rattle.halo_interest.specs.Rates.{IsInterest, no_interest}

-- the first count places hold the fractions of an interest
pub record IsKept (places : List Rate) (count : ℕ) : Type 0 where
  pub full : length places ≡ 8
  pub within : count ≤ 8
  pub interest : IsInterest (take count places)
  pub unused : drop count places ≡ replicate (8 - count) no_interest
