-- An insurance pays at most once on an outcome, and so its value is bounded by what it can pay at
-- the most.
use Rattle.std.specs.Prelude.{◌≡◌, ℕ, ◌+◌, ◌*◌, ◌<◌, ◌≤◌, All, Bool, cond, List, length, ℤ, pos, ◌≤ℤ◌}
use Rattle.halo_sums.specs.Sums.{int_sum_over, sum_over}
use Rattle.halo_status.specs.Pay.{PlainPay}
use Rattle.halo_model.specs.Life.{AreLives}
use Rattle.halo_model.specs.Outcome.{Outcome, joint_survivors}
use Rattle.halo_model.specs.Event.{Event, leavings, term_ends}
use Rattle.halo_model.specs.Order.{orders_taken, rank_in}
use Rattle.halo_contract.specs.declared.ties.Ties.{Ties}
use Rattle.halo_model.specs.Basis.{Basis, accumulated, taken}
use Rattle.halo_model.specs.Payment.{falls_on}
use Rattle.halo_model.specs.Horizon.{horizon}
use Rattle.halo_model.specs.Counts.{greatest_factor}
use Rattle.halo_model.specs.Value.{denominator, numerator}
use Rattle.halo_model.specs.Chance.{IsValidInsurance}
use Rattle.halo_model.specs.Part.{end_part, leaving_part}
use Rattle.halo_model.specs.PartLaws.{EndBy}

-- no two of n lives have one rank
abbrev pub HaveOwnRanks : (ℕ → ℕ) → ℕ → Type 0
HaveOwnRanks rank n = (i j : ℕ) → i < n → j < n → rank i ≡ rank j → i ≡ j

-- so it is in each order taken
abbrev pub OrdersGiveOwnRanks : Type 0
OrdersGiveOwnRanks = (ties : Ties) (n : ℕ)
    → All (λ order. HaveOwnRanks (rank_in order) n) (orders_taken ties n)

-- how many payments of an insurance fall on some events of an outcome from T
abbrev pub payments_on : PlainPay → (ℕ → ℕ) → ℕ → Outcome → List Event → ℕ
payments_on pay rank T o events = sum_over events (λ event. cond (falls_on pay rank T o event) 1 0)

-- and on all: the leavings of the lives, and the ends of the terms up to a last one
abbrev pub payments_of : PlainPay → ℕ → (ℕ → ℕ) → ℕ → Outcome → ℕ
payments_of pay last rank T o =
    payments_on pay rank T o (leavings 0 o) + payments_on pay rank T o (term_ends last pay.body)

-- on each outcome and in each order taken an insurance has at most one payment
abbrev pub OnePayment : Type 0
OnePayment = (b : Basis) (pay : PlainPay)
    → IsValidInsurance pay → (T : ℕ) (o : Outcome) → length o ≡ length b.lives
    → All (λ order. payments_of pay b.last_time (rank_in order) T o ≤ 1) (taken b)

-- the most that a pay can pay at once: its amount by its greatest factor
abbrev pub most_paid : Basis → PlainPay → ℕ
most_paid b pay = pay.amount * greatest_factor pay.vary (horizon b.lives pay.body)

-- so an insurance is worth no more than that
abbrev pub InsuranceIsBounded : Type 0
InsuranceIsBounded = (b : Basis) → AreLives b.lives
    → EndBy b.last_time b.lives → (pay : PlainPay) → IsValidInsurance pay → (T : ℕ) (S : ℕ → Bool)
    → numerator b pay T S ≤ most_paid b pay * denominator b T S

-- from nothing to so much
pub record IsBetween (least most : ℕ) (value : ℤ) : Type 0 where
  pub at_least : pos least ≤ℤ value
  pub at_most : value ≤ℤ pos most

-- and so is what falls on the leaving of one life, by any ranks ..
abbrev pub LeavingIsBounded : Type 0
LeavingIsBounded = (b : Basis)
    → AreLives b.lives → EndBy b.last_time b.lives → (pay : PlainPay) → IsValidInsurance pay
    → (rank : ℕ → ℕ) (T : ℕ) (S : ℕ → Bool) (a : ℕ)
    → IsBetween 0 (most_paid b pay * (joint_survivors T S b.lives * accumulated b T))
    (leaving_part b pay rank T S a)

-- .. and on the end of one term
abbrev pub EndIsBounded : Type 0
EndIsBounded = (b : Basis) → AreLives b.lives → (pay : PlainPay) → IsValidInsurance pay
    → (rank : ℕ → ℕ) (T : ℕ) (S : ℕ → Bool) (n : ℕ) → 1 ≤ n → n ≤ b.last_time
    → IsBetween 0 (most_paid b pay * (joint_survivors T S b.lives * accumulated b T))
    (end_part b pay rank T S n)

-- the same in all orders taken together
abbrev pub LeavingsAreBounded : Type 0
LeavingsAreBounded = (b : Basis) → AreLives b.lives → EndBy b.last_time b.lives
    → (pay : PlainPay) → IsValidInsurance pay → (T : ℕ) (S : ℕ → Bool) (a : ℕ)
    → IsBetween 0 (most_paid b pay * denominator b T S)
    (int_sum_over (taken b) (λ order. leaving_part b pay (rank_in order) T S a))

abbrev pub EndsAreBounded : Type 0
EndsAreBounded = (b : Basis) → AreLives b.lives → (pay : PlainPay)
    → IsValidInsurance pay → (T : ℕ) (S : ℕ → Bool) (n : ℕ) → 1 ≤ n → n ≤ b.last_time
    → IsBetween 0 (most_paid b pay * denominator b T S)
    (int_sum_over (taken b) (λ order. end_part b pay (rank_in order) T S n))
