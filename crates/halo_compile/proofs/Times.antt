-- Each time of a form has a segment, and its polynomial has the coefficients of that time.
use Rattle.std.proofs.Common.{◌≡◌, ℕ, zero, suc, ◌<◌, ◌≤◌, ◌^◌, arith, ap, sym, ◌∙◌, ⊎_elim, List, [], ◌∷◌, length, map, ℤ}
use Rattle.std.proofs.lemmas.Bool.{cases_lt}
use Rattle.halo_sums.specs.Masks.{bits}
use Rattle.halo_status.specs.Pay.{PlainPay}
use Rattle.halo_model.specs.Coefficient.{form}
use Rattle.halo_model.specs.Segment.{AreSegmentsFrom, Run, first_time, last_time_of_form}
use Rattle.halo_poly.specs.Poly.{coefficient_at}
use Rattle.halo_sums.proofs.SetMasks.{length-bits, mask_of-bits}
use Rattle.halo_compile.specs.declared.form.Segment.{Segment}
use Rattle.halo_compile.specs.Form.{HasTime, HaveCoefficients, IsForm, IsInForm, IsPolyOf, run_of, segment_at}

-- a segment that has a time is one further on behind another segment
next-place : {m : ℕ} (s : Segment m) (segments : List (Segment m)) (t : ℕ) → (place : ℕ) × HasTime segments t place
    → (place : ℕ) × HasTime (s ∷ segments) t place
next-place s segments t (place, has) =
    (suc place, record { within = omega (arith, has.within); from = has.from; to = has.to })

-- the first segment has the times from its first one to its last one
at-first : {m : ℕ} (s : Segment m) (segments : List (Segment m)) (t : ℕ) → s.from ≤ t → t ≤ s.to
    → (place : ℕ) × HasTime (s ∷ segments) t place
at-first s segments t from to = (0, record { within = omega arith; from = from; to = to })

has-segment : {m : ℕ} (pay : PlainPay) (n first last t : ℕ) (segments : List (Segment m))
    → AreSegmentsFrom pay n first last (map run_of segments) → first ≤ t → t ≤ last
    → (place : ℕ) × HasTime segments t place
has-segment pay n first last t [] are from to = absurd are
has-segment pay n first last t (s ∷ []) are from to =
    at-first s [] t (omega (arith, ap (λ (r : Run). r.first) are.0, from))
    (omega (arith, ap (λ (r : Run). r.last) are.0, to))
has-segment pay n first last t (s ∷ next ∷ segments) are from to = ⊎_elim
    (λ (later : s.to < t).
    next-place s (next ∷ segments) t
    (has-segment pay n (suc s.to) last t (next ∷ segments) are.4 (omega (arith, later)) to))
    (λ (now : t ≤ s.to). at-first s (next ∷ segments) t (omega (arith, are.0, from)) now)
    (cases_lt s.to t)

-- each time of a form has a segment
pub time-has-segment : {m : ℕ} (pay : PlainPay) (n horizon t : ℕ) (segments : List (Segment m))
    → IsForm pay n horizon segments → first_time pay.kind ≤ t → t ≤ last_time_of_form pay.kind horizon
    → (place : ℕ) × HasTime segments t place
time-has-segment pay n horizon t segments is from to =
    has-segment pay n (first_time pay.kind) (last_time_of_form pay.kind horizon) t segments is.runs from to

-- segments end after they begin
some-times : (pay : PlainPay) (n first last : ℕ) (run : Run) (runs : List Run)
    → AreSegmentsFrom pay n first last (run ∷ runs) → first ≤ last
some-times pay n first last run [] are = are.1
some-times pay n first last run (next ∷ runs) are =
    omega (arith, are.1, some-times pay n (suc run.last) last next runs are.4)

within-times : {m : ℕ} (pay : PlainPay) (n first last place : ℕ) (segments : List (Segment m))
    → AreSegmentsFrom pay n first last (map run_of segments) → place < length segments
    → (first ≤ (segment_at segments place).from) × ((segment_at segments place).from ≤ (segment_at segments place).to)
    × ((segment_at segments place).to ≤ last)
within-times pay n first last place [] are below = absurd are
within-times pay n first last zero (s ∷ []) are below =
    let from = ap (λ (r : Run). r.first) are.0 in
    let to = ap (λ (r : Run). r.last) are.0 in
    (omega (arith, from), omega (arith, from, to, are.1), omega (arith, to))
within-times pay n first last (suc place) (s ∷ []) are below = absurd (omega (arith, below))
within-times pay n first last zero (s ∷ next ∷ segments) are below = (
  omega (arith, are.0),
  omega (arith, are.0, are.1),
  omega (arith, some-times pay n (suc s.to) last (run_of next) (map run_of segments) are.4),
)
within-times pay n first last (suc place) (s ∷ next ∷ segments) are below =
    let later = within-times pay n (suc s.to) last place (next ∷ segments) are.4 (omega (arith, below)) in
    (omega (arith, are.1, later.0), later.1, later.2)

-- all times of a segment are times of the form
pub segment-in-form : {m : ℕ} (pay : PlainPay) (n horizon place : ℕ) (segments : List (Segment m))
    → IsForm pay n horizon segments → place < length segments
    → IsInForm pay horizon (run_of (segment_at segments place))
segment-in-form pay n horizon place segments is below =
    let times =
    within-times pay n (first_time pay.kind) (last_time_of_form pay.kind horizon) place segments is.runs below in
    record { from = times.0; some = times.1; to = times.2 }

-- the polynomial of a segment that has a time is that of the pay then
poly-then : {m : ℕ} (pay : PlainPay) (n t place : ℕ) (segments : List (Segment m)) → HaveCoefficients pay n segments
    → HasTime segments t place → IsPolyOf pay n t (segment_at segments place).poly
poly-then pay n t place [] have has = absurd (omega (arith, has.within))
poly-then pay n t zero (s ∷ segments) have has = have.0 t has.from has.to
poly-then pay n t (suc place) (s ∷ segments) have has =
    poly-then pay n t place segments have.1
    (record { within = omega (arith, has.within); from = has.from; to = has.to })

pub segment-is-right : {m : ℕ} (pay : PlainPay) (n horizon t place : ℕ) (segments : List (Segment m))
    → IsForm pay n horizon segments → HasTime segments t place → IsPolyOf pay n t (segment_at segments place).poly
segment-is-right pay n horizon t place segments is has = poly-then pay n t place segments is.coefficients has

-- the coefficients of a polynomial of a pay, by the masks of sets
pub coefficients-by-mask : (pay : PlainPay) (n t : ℕ) (p : List ℤ) → IsPolyOf pay n t p → (mask : ℕ) → mask < 2 ^ n
    → coefficient_at p mask ≡ form pay t (bits n mask)
coefficients-by-mask pay n t p is mask below =
    ap (coefficient_at p) (sym (mask_of-bits n mask below)) ∙ is.coefficients (bits n mask) (length-bits n mask)
