-- The value of an insurance, and each part of it, is the sum over the sets of lives that are alive
-- of what falls due on each set.
use Rattle.std.specs.Prelude.{◌≡◌, ℕ, ◌<◌, ◌≤◌, Bool, List, length, pos, ◌*ℤ◌}
use Rattle.halo_sums.specs.Sums.{int_sum_over}
use Rattle.halo_sums.specs.Sets.{in_set, subsets}
use Rattle.halo_status.specs.Pay.{PlainPay}
use Rattle.halo_model.specs.Backward.{outside}
use Rattle.halo_model.specs.Life.{AreLives}
use Rattle.halo_model.specs.Outcome.{joint_survivors}
use Rattle.halo_model.specs.Order.{rank_in}
use Rattle.halo_model.specs.Basis.{Basis, taken}
use Rattle.halo_model.specs.Value.{numerator}
use Rattle.halo_model.specs.Chance.{IsValidInsurance}
use Rattle.halo_model.specs.Part.{end_part, leaving_part}
use Rattle.halo_model.specs.PartLaws.{EndBy}
use Rattle.halo_model.specs.SetValue.{all_events, end_of_term, leaving_of, set_value}

-- in each order taken, over the subsets of the lives alive: with the lives alive outside of the
-- set, which count as they are alive at T
abbrev pub InsuranceBySets : Type 0
InsuranceBySets = (b : Basis)
    → AreLives b.lives → EndBy b.last_time b.lives → (pay : PlainPay) → IsValidInsurance pay
    → (T : ℕ) (alive : List Bool) → length alive ≡ length b.lives
    → pos (numerator b pay T (in_set alive))
    ≡ int_sum_over (taken b) (λ order. int_sum_over (subsets alive) (λ s.
    set_value b pay all_events (rank_in order) T s
    *ℤ pos (joint_survivors T (outside (in_set alive) s) b.lives)))

-- what falls on the leaving of one life, for any order
abbrev pub LeavingBySets : Type 0
LeavingBySets = (b : Basis) → AreLives b.lives → (pay : PlainPay) → IsValidInsurance pay
    → (rank : ℕ → ℕ) (T : ℕ) (alive : List Bool)
    → length alive ≡ length b.lives → (a : ℕ) → a < length b.lives
    → leaving_part b pay rank T (in_set alive) a ≡ int_sum_over (subsets alive) (λ s.
    set_value b pay (leaving_of a) rank T s
    *ℤ pos (joint_survivors T (outside (in_set alive) s) b.lives))

-- what falls on the end of one term
abbrev pub EndBySets : Type 0
EndBySets = (b : Basis) → AreLives b.lives → (pay : PlainPay) → IsValidInsurance pay
    → (rank : ℕ → ℕ) (T : ℕ) (alive : List Bool)
    → length alive ≡ length b.lives → (n : ℕ) → 1 ≤ n → n ≤ b.last_time
    → end_part b pay rank T (in_set alive) n ≡ int_sum_over (subsets alive) (λ s.
    set_value b pay (end_of_term n) rank T s
    *ℤ pos (joint_survivors T (outside (in_set alive) s) b.lives))
