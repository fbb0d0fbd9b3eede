-- The parts of a value: what an annuity pays at each time, and what an insurance pays for each
-- event.
use Rattle.std.specs.Prelude.{ℕ, suc, ◌-◌, ◌*◌, Bool, cond, ◌&&◌, nat_le, nat_lt, List, filter, length, ℤ, pos, ◌*ℤ◌}
use Rattle.halo_sums.specs.Sums.{indicator, int_sum_over, numbers_from}
use Rattle.halo_sums.specs.Sets.{sets}
use Rattle.halo_status.specs.Naming.{names_term}
use Rattle.halo_status.specs.Pay.{PlainPay}
use Rattle.halo_model.specs.Basis.{Basis, discounted}
use Rattle.halo_model.specs.Event.{ends}
use Rattle.halo_model.specs.Payment.{falls_on, payment}
use Rattle.halo_model.specs.Coefficient.{form}
use Rattle.halo_model.specs.Expectation.{all_there, expected}
use Rattle.halo_model.specs.Chance.{paid_on_leaving}

-- the weight of the outcomes from T in which a pay exists at time t, by the coefficients of its
-- form
abbrev pub existing_weight : Basis → PlainPay → ℕ → (ℕ → Bool) → ℕ → ℤ
existing_weight b pay T S t =
    int_sum_over (sets (length b.lives)) (λ s. form pay t s *ℤ all_there (λ i. t) T S b.lives s)

-- what an annuity-due pays at time t adds to its value at T
abbrev pub due_part : Basis → PlainPay → ℕ → (ℕ → Bool) → ℕ → ℤ
due_part b pay T S t =
    cond (nat_le pay.defer t && nat_le T t)
    (pos (payment pay (t - pay.defer) * discounted b T t) *ℤ existing_weight b pay T S t) (pos 0)

-- what an annuity-immediate pays at time t adds
abbrev pub immediate_part : Basis → PlainPay → ℕ → (ℕ → Bool) → ℕ → ℤ
immediate_part b pay T S t =
    cond (nat_lt pay.defer t && nat_lt T t)
    (pos (payment pay (t - pay.defer - 1) * discounted b T t) *ℤ existing_weight b pay T S t)
    (pos 0)

-- the value at T of what an insurance pays for an event in year k, at the end of the year
abbrev pub paid_for_year : Basis → PlainPay → ℕ → ℕ → ℕ
paid_for_year b pay T k = payment pay (k - pay.defer) * discounted b T (suc k)

-- what an insurance pays when life a leaves adds
abbrev pub leaving_part : Basis → PlainPay → (ℕ → ℕ) → ℕ → (ℕ → Bool) → ℕ → ℤ
leaving_part b pay rank T S a =
    int_sum_over (numbers_from 0 b.last_time)
    (λ k. pos (paid_for_year b pay T k)
    *ℤ expected T S b.lives (λ o. indicator (paid_on_leaving pay rank T a k o)))

-- what it pays when the term of n years ends adds
abbrev pub end_part : Basis → PlainPay → (ℕ → ℕ) → ℕ → (ℕ → Bool) → ℕ → ℤ
end_part b pay rank T S n =
    pos (paid_for_year b pay T (n - 1))
    *ℤ expected T S b.lives (λ o. indicator (falls_on pay rank T o (ends n)))

-- the lengths of the terms that a pay names
abbrev pub terms_of : Basis → PlainPay → List ℕ
terms_of b pay = filter (λ n. names_term n pay.body) (numbers_from 1 b.last_time)
