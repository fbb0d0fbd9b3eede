-- The compiled form of a pay: its segments and their coefficients.
use Rattle.std.specs.Prelude.{◌≡◌, ℕ, ◌<◌, ◌≤◌, ◌^◌, List, [], ◌∷◌, get_or, length, map, ⊤, ℤ}
use Rattle.halo_status.specs.Pay.{PlainPay}
use Rattle.halo_model.specs.Coefficient.{existence, form}
use Rattle.halo_model.specs.Segment.{AreSegments, Run, first_time, last_time_of_form}
use Rattle.halo_poly.specs.Poly.{EachSetOf, coefficient_of, value_on}
use Rattle.halo_compile.specs.declared.form.Segment.{Segment}

-- the times of a segment
abbrev pub run_of : {m : ℕ} → Segment m → Run
run_of s = record { first = s.from; last = s.to }

-- a polynomial has the coefficients of a pay on n lives at a time, and on each set of lives the
-- value 1 where the pay exists and else 0
pub record IsPolyOf (pay : PlainPay) (n t : ℕ) (p : List ℤ) : Type 0 where
  pub full : length p ≡ 2 ^ n
  pub coefficients : EachSetOf n (λ s. coefficient_of p s ≡ form pay t s)
  pub values : EachSetOf n (λ s. value_on p s ≡ existence pay t s)

-- each segment has the coefficients at each of its times
abbrev pub HaveCoefficients : {m : ℕ} → PlainPay → ℕ → List (Segment m) → Type 0
HaveCoefficients pay n [] = ⊤
HaveCoefficients pay n (s ∷ segments) =
    ((t : ℕ) → s.from ≤ t → t ≤ s.to → IsPolyOf pay n t s.poly) × HaveCoefficients pay n segments

-- the segments of the form of a pay on n lives
pub record IsForm {m : ℕ} (pay : PlainPay) (n horizon : ℕ) (segments : List (Segment m))
    : Type 0 where
  pub runs : AreSegments pay n horizon (map run_of segments)
  pub coefficients : HaveCoefficients pay n segments

-- the segment at a place
abbrev pub segment_at : {m : ℕ} → List (Segment m) → ℕ → Segment m
segment_at segments place = get_or segments place (record { from = 0; to = 0; poly = [] })

-- the segment at a place has a time
pub record HasTime {m : ℕ} (segments : List (Segment m)) (t place : ℕ) : Type 0 where
  pub within : place < length segments
  pub from : (segment_at segments place).from ≤ t
  pub to : t ≤ (segment_at segments place).to

-- a run has times, and all are times of the form of a pay
pub record IsInForm (pay : PlainPay) (horizon : ℕ) (run : Run) : Type 0 where
  pub from : first_time pay.kind ≤ run.first
  pub some : run.first ≤ run.last
  pub to : run.last ≤ last_time_of_form pay.kind horizon
