-- A reserve is a conditional expectation: ₜV = E(ₜL | those who are alive at t).
use Rattle.std.specs.Prelude.{◌≡◌, ℕ, Bool, true, not, cond, ◌&&◌, [], ◌∷◌, pos, ◌*ℤ◌}
use Rattle.halo_sums.specs.Sums.{indicator}
use Rattle.halo_status.specs.Pay.{PlainPay}
use Rattle.halo_model.specs.Life.{AreLives, after_first}
use Rattle.halo_model.specs.Outcome.{Outcome, joint_survivors}
use Rattle.halo_model.specs.There.{there}
use Rattle.halo_model.specs.Basis.{Basis}
use Rattle.halo_contract.specs.Premium.{all_lives}
use Rattle.halo_model.specs.Value.{outcome_value, ranked_numerator}
use Rattle.halo_model.specs.Expectation.{expected}

-- whether of the lives of an outcome exactly those of the set S are there at time T
abbrev pub exactly_at : ℕ → (ℕ → Bool) → Outcome → Bool
exactly_at T S [] = true
exactly_at T S (way ∷ o) =
    cond (S 0) (there T way) (not (there T way)) && exactly_at T (after_first S) o

-- In each order: of the outcomes from the start in which exactly the lives of S are there at T, the
-- sum of weight times the value at T of what is still to be paid, over the sum of the weights, is
-- the value at T with the lives of S alive.
abbrev pub ReserveIsConditional : Type 0
ReserveIsConditional =
    (b : Basis) → AreLives b.lives → (pay : PlainPay) (rank : ℕ → ℕ) (T : ℕ) (S : ℕ → Bool)
    → expected 0 all_lives b.lives
    (λ o. indicator (exactly_at T S o) *ℤ pos (outcome_value b pay rank T o))
    *ℤ pos (joint_survivors T S b.lives)
    ≡ pos (ranked_numerator b pay rank T S)
    *ℤ expected 0 all_lives b.lives (λ o. indicator (exactly_at T S o))
