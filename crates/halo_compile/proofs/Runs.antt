-- Segments are closed one after another.
use Rattle.std.proofs.Common.{◌≡◌, ◌≢◌, ℕ, suc, ◌-◌, ◌<◌, ◌≤◌, arith, refl, List, [], ◌∷◌}
use Rattle.halo_status.specs.Pay.{PlainPay}
use Rattle.halo_model.specs.Segment.{AreSegmentsFrom, Run, coefficients_at}

-- a run stands before some segments where the coefficients change behind it
pub run_before : (pay : PlainPay) (n first until last : ℕ) (rest : List Run) → first < until
    → ((t : ℕ) → first ≤ t → t < until → coefficients_at pay n t ≡ coefficients_at pay n first)
    → coefficients_at pay n until ≢ coefficients_at pay n first
    → AreSegmentsFrom pay n until last rest
    → AreSegmentsFrom pay n first last (record { first = first; last = until - 1 } ∷ rest)
run_before pay n first until last [] h same changes are = absurd are
run_before pay n first until last (next ∷ runs) h same changes are =
    let e : suc (until - 1) ≡ until = omega arith in
    (refl, omega arith, λ t low high. same t low (omega arith), rw e changes, rw e are)

-- the last run ends at the last time
pub last_run : (pay : PlainPay) (n first until : ℕ) → first < until
    → ((t : ℕ) → first ≤ t → t < until → coefficients_at pay n t ≡ coefficients_at pay n first)
    → AreSegmentsFrom pay n first (until - 1) (record { first = first; last = until - 1 } ∷ [])
last_run pay n first until h same = (refl, omega arith, λ t low high. same t low (omega arith))
