-- Yearly interest: fractions in the order of their years, each from its year until the next one's.
use Rattle.std.specs.Prelude.{◌≡◌, ℕ, ◌+◌, ◌-◌, ◌^◌, ◌<◌, ◌≤◌, List, [], ◌∷◌, length, get_or, nat_le, if◌then◌else◌}
use Rattle.halo_interest.specs.declared.rate.Rate.{Rate}

-- p / q is a fraction of interest
pub record IsFraction (p q : ℕ) : Type 0 where
  pub p_in : p ≤ 10 ^ 9
  pub q_from : 1 ≤ q
  pub q_in : q ≤ 10 ^ 9

-- one fraction for all years
abbrev pub level : ℕ → ℕ → List Rate
level p q = record { year = 0; p = p; q = q } ∷ []

-- no interest in any year
abbrev pub no_interest : Rate
no_interest = record { year = 0; p = 0; q = 1 }

-- the fraction at a place of the list
abbrev pub rate_at : List Rate → ℕ → Rate
rate_at rates i = get_or rates i no_interest

-- the fractions are those of an interest: 1 to 8 of them, the first from year 0, the years going
-- up to 199 at most
pub record IsInterest (rates : List Rate) : Type 0 where
  pub some : 1 ≤ length rates
  pub room : length rates ≤ 8
  pub start : (rate_at rates 0).year ≡ 0
  pub fractions : (i : ℕ) → i < length rates → IsFraction (rate_at rates i).p (rate_at rates i).q
  pub years : (i : ℕ) → i < length rates → (rate_at rates i).year ≤ 199
  pub increasing : (i : ℕ) → i + 1 < length rates
      → (rate_at rates i).year < (rate_at rates (i + 1)).year

-- p / q from a year on may follow the fractions: the year is after the last one's, and there is
-- room
pub record CanFollow (rates : List Rate) (year p q : ℕ) : Type 0 where
  pub fraction : IsFraction p q
  pub year_in : year ≤ 199
  pub later : (rate_at rates (length rates - 1)).year < year
  pub room : length rates < 8

-- the fraction of year k where r stands before the others: each holds until the next one's year
abbrev pub latest_of : Rate → List Rate → ℕ → Rate
latest_of r [] k = r
latest_of r (next ∷ rest) k = if nat_le next.year k then latest_of next rest k else r

-- the fraction of year k
abbrev pub rate_of : List Rate → ℕ → Rate
rate_of [] k = no_interest
rate_of (first ∷ rest) k = latest_of first rest k

-- The discount factor v of year k is what 1 at its end is worth at its beginning, where i = p / q.
-- v = 1 / (1 + i) = q / (p + q); the books' discount is d = 1 - v
abbrev pub discount_numerator : List Rate → ℕ → ℕ
discount_numerator rates k = (rate_of rates k).q

abbrev pub discount_denominator : List Rate → ℕ → ℕ
discount_denominator rates k = (rate_of rates k).p + (rate_of rates k).q
