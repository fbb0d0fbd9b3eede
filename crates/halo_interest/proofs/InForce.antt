-- The fraction that is in force in a year is a fraction of interest.
use Rattle.std.proofs.Common.{ℕ, ◌<◌, [], ◌∷◌, List, length, arith, Bool, true, false, cond, suc}
use Rattle.std.specs.Prelude.{nat_le}
use Rattle.halo_interest.specs.declared.rate.Rate.{Rate}
use Rattle.halo_interest.specs.Rates.{IsFraction, IsInterest, rate_at, latest_of, rate_of}

-- of two fractions either is one
either : (b : Bool) (r s : Rate) → IsFraction r.p r.q → IsFraction s.p s.q → IsFraction (cond b r s).p (cond b r s).q
either true r s f g = f
either false r s f g = g

-- the last that has begun, of fractions
latest_is : (r : Rate) (rest : List Rate) (k : ℕ) → IsFraction r.p r.q
    → ((i : ℕ) → i < length rest → IsFraction (rate_at rest i).p (rate_at rest i).q)
    → IsFraction (latest_of r rest k).p (latest_of r rest k).q
latest_is r [] k f each = f
latest_is r (next ∷ rest) k f each =
    either (nat_le next.year k) (latest_of next rest k) r
    (latest_is next rest k (each 0 (omega arith)) (λ i l. each (suc i) (omega arith))) f

-- the fraction of a year, of an interest
pub in_force_is : (rates : List Rate) → IsInterest rates → (k : ℕ) → IsFraction (rate_of rates k).p (rate_of rates k).q
in_force_is [] a k = absurd (omega (arith, a.some))
in_force_is (r ∷ rest) a k = latest_is r rest k (a.fractions 0 (omega arith)) (λ i l. a.fractions (suc i) (omega arith))
