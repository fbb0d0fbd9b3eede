-- The segments of a form: the longest runs of times at which its coefficients stay the same.
use Rattle.std.specs.Prelude.{◌≡◌, ◌≢◌, ℕ, suc, ◌+◌, ◌-◌, ◌≤◌, List, [], ◌∷◌, map, ℤ}
use Rattle.halo_sums.specs.Sets.{sets}
use Rattle.halo_status.specs.Pay.{PlainPay}
use Rattle.halo_status.specs.declared.pay.Kind.{Kind}
use Rattle.halo_status.specs.declared.pay.Kind.TheVariants.{Insurance, Due, Immediate}
use Rattle.halo_model.specs.Coefficient.{form}

-- the first time of a form: an annuity-immediate pays from time 1 on, any other pay from time 0 on
abbrev pub first_time : Kind → ℕ
first_time Immediate = 1
first_time Insurance = 0
first_time Due = 0

-- the last time of a form with a horizon: it has as many times as the horizon has years
abbrev pub last_time_of_form : Kind → ℕ → ℕ
last_time_of_form kind horizon = first_time kind + horizon - 1

-- the coefficients of a form at time t for all sets of n lives
abbrev pub coefficients_at : PlainPay → ℕ → ℕ → List ℤ
coefficients_at pay n t = map (form pay t) (sets n)

-- a run of times, both ends included
pub record Run : Type 0 where
  pub first : ℕ
  pub last : ℕ

-- the times of a run have equal coefficients
abbrev pub IsUniform : PlainPay → ℕ → Run → Type 0
IsUniform pay n run = (t : ℕ) → run.first ≤ t → t ≤ run.last
    → coefficients_at pay n t ≡ coefficients_at pay n run.first

-- some runs follow one another from a first time to a last one; the coefficients are equal within
-- each run, and change between them
abbrev pub AreSegmentsFrom : PlainPay → ℕ → ℕ → ℕ → List Run → Type 0
AreSegmentsFrom pay n first last [] = ⊥
AreSegmentsFrom pay n first last (run ∷ []) =
    (run ≡ record { first = first; last = last }) × (first ≤ last) × IsUniform pay n run
AreSegmentsFrom pay n first last (run ∷ next ∷ runs) =
    (run.first ≡ first) × (first ≤ run.last) × IsUniform pay n run
    × (coefficients_at pay n (suc run.last) ≢ coefficients_at pay n first)
    × AreSegmentsFrom pay n (suc run.last) last (next ∷ runs)

-- the segments of the form of a pay on n lives, over all times up to its horizon
abbrev pub AreSegments : PlainPay → ℕ → ℕ → List Run → Type 0
AreSegments pay n horizon runs =
    AreSegmentsFrom pay n (first_time pay.kind) (last_time_of_form pay.kind horizon) runs
