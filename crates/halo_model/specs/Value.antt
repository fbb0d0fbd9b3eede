-- The value of a pay: the expected present value of its payments, cleared of fractions.
use Rattle.std.specs.Prelude.{ℕ, suc, ◌+◌, ◌-◌, ◌*◌, Bool, cond, List, length}
use Rattle.halo_sums.specs.Sums.{numbers_from, sum_over}
use Rattle.halo_status.specs.Pay.{PlainPay}
use Rattle.halo_status.specs.declared.pay.Kind.{Kind}
use Rattle.halo_status.specs.declared.pay.Kind.TheVariants.{Insurance, Immediate, Due}
use Rattle.halo_model.specs.Outcome.{Outcome, joint_survivors, outcomes, weight}
use Rattle.halo_model.specs.Order.{rank_in}
use Rattle.halo_model.specs.Event.{Event, leavings, term_ends, year_of}
use Rattle.halo_model.specs.Basis.{Basis, accumulated, discounted, taken}
use Rattle.halo_model.specs.Payment.{falls_on, payment, pays_due, pays_immediate}

-- the value at T of what an annuity-due pays on an outcome
-- Σ_(t ≤ K) v^t, on one life that leaves in year K
abbrev pub due_value : Basis → PlainPay → ℕ → Outcome → ℕ
due_value b pay T o =
    sum_over (numbers_from 0 (suc b.last_time))
    (λ t. cond (pays_due pay T o t) (payment pay (t - pay.defer) * discounted b T t) 0)

-- of what an annuity-immediate pays
-- Σ_(1 ≤ t ≤ K) v^t, on such a life
abbrev pub immediate_value : Basis → PlainPay → ℕ → Outcome → ℕ
immediate_value b pay T o =
    sum_over (numbers_from 1 b.last_time)
    (λ t. cond (pays_immediate pay T o t) (payment pay (t - pay.defer - 1) * discounted b T t) 0)

-- of what an insurance pays for an event, at the end of its year
-- v^(K+1), on such a life
abbrev pub event_value : Basis → PlainPay → (ℕ → ℕ) → ℕ → Outcome → Event → ℕ
event_value b pay rank T o event =
    cond (falls_on pay rank T o event)
    (payment pay (year_of event - pay.defer) * discounted b T (suc (year_of event))) 0

-- and of what it pays for all events
abbrev pub insurance_value : Basis → PlainPay → (ℕ → ℕ) → ℕ → Outcome → ℕ
insurance_value b pay rank T o =
    sum_over (leavings 0 o) (event_value b pay rank T o)
    + sum_over (term_ends b.last_time pay.body) (event_value b pay rank T o)

-- the value of an outcome by the kind of pay, where the lives of one year leave by their ranks
abbrev pub value_by_kind : Kind → Basis → PlainPay → (ℕ → ℕ) → ℕ → Outcome → ℕ
value_by_kind Due b pay rank T o = due_value b pay T o
value_by_kind Immediate b pay rank T o = immediate_value b pay T o
value_by_kind Insurance b pay rank T o = insurance_value b pay rank T o

abbrev pub outcome_value : Basis → PlainPay → (ℕ → ℕ) → ℕ → Outcome → ℕ
outcome_value b pay rank T o = value_by_kind pay.kind b pay rank T o

-- the sum over the outcomes from T, with the lives of S alive, of weight times value
abbrev pub ranked_numerator : Basis → PlainPay → (ℕ → ℕ) → ℕ → (ℕ → Bool) → ℕ
ranked_numerator b pay rank T S =
    sum_over (outcomes T S b.lives) (λ o. weight b.lives o * outcome_value b pay rank T o)

-- The value of a pay at T, with the lives of S alive, is numerator / denominator: the mean over the
-- outcomes, and over the orders in which the lives of one year may leave.
unfoldable pub numerator : Basis → PlainPay → ℕ → (ℕ → Bool) → ℕ
numerator b pay T S = sum_over (taken b) (λ order. ranked_numerator b pay (rank_in order) T S)

unfoldable pub denominator : Basis → ℕ → (ℕ → Bool) → ℕ
denominator b T S = length (taken b) * (joint_survivors T S b.lives * accumulated b T)

-- the same of some pays together
unfoldable pub total_numerator : Basis → List PlainPay → ℕ → (ℕ → Bool) → ℕ
total_numerator b pays T S = sum_over pays (λ pay. numerator b pay T S)
