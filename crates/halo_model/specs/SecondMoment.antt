-- Since an insurance pays at most once, its deferrals tell when it pays, and its second moment is a
-- sum over the years.
use Rattle.std.specs.Prelude.{◌≡◌, ℕ, suc, ◌+◌, ◌*◌, Bool, cond, nat_le, pos, ◌-ℤ◌, ◌*ℤ◌}
use Rattle.halo_sums.specs.Sums.{int_sum_over, numbers_from, sum_over}
use Rattle.halo_status.specs.Pay.{PlainPay}
use Rattle.halo_status.specs.declared.pay.Kind.TheVariants.{Insurance}
use Rattle.halo_status.specs.declared.pay.Vary.TheVariants.{Level}
use Rattle.halo_model.specs.Outcome.{outcomes, weight}
use Rattle.halo_model.specs.Order.{rank_in}
use Rattle.halo_model.specs.Basis.{Basis, taken}
use Rattle.halo_model.specs.Chance.{IsValidInsurance}
use Rattle.halo_model.specs.OneEvent.{payments_in_year}
use Rattle.halo_model.specs.Part.{paid_for_year}
use Rattle.halo_model.specs.PartLaws.{EndBy}
use Rattle.halo_model.specs.Value.{numerator, outcome_value}

-- the weight of the outcomes and orders in which an insurance pays for year k
abbrev pub paying_weight : Basis → PlainPay → ℕ → (ℕ → Bool) → ℕ → ℕ
paying_weight b pay T S k = sum_over (taken b) (λ order.
    sum_over (outcomes T S b.lives)
    (λ o. weight b.lives o * payments_in_year pay b.last_time (rank_in order) T o k))

-- the interest 0/1 in all years, at which money is worth the same at all times
abbrev pub HasNoInterest : Basis → Type 0
HasNoInterest b = (k : ℕ) → (b.p k ≡ 0) × (b.q k ≡ 1)

-- without interest, a level insurance of 1 deferred by k is worth more than that deferred by k + 1
-- by the weight with which one without a deferral pays for year k
-- ₖ|A_x - ₖ₊₁|A_x = d_(x+k) / l_x
abbrev pub level_from : PlainPay → ℕ → PlainPay
level_from pay k = record pay { amount = 1; vary = Level; defer = k }

abbrev pub DeferralsTell : Type 0
DeferralsTell = (b : Basis)
    → HasNoInterest b → (pay : PlainPay) → pay.kind ≡ Insurance → (T : ℕ) (S : ℕ → Bool) (k : ℕ)
    → numerator b (level_from pay k) T S
    ≡ numerator b (level_from pay (suc k)) T S + paying_weight b (level_from pay 0) T S k

abbrev pub squared : ℕ → ℕ
squared n = n * n

-- the sum over orders and outcomes of weight times the square of the value
abbrev pub second_moment : Basis → PlainPay → ℕ → (ℕ → Bool) → ℕ
second_moment b pay T S = sum_over (taken b) (λ order.
    sum_over (outcomes T S b.lives)
    (λ o. weight b.lives o * squared (outcome_value b pay (rank_in order) T o)))

-- the payment for each year squared, times the weight with which it falls in that year
-- ²A_x = Σ_k (v^(k+1))² · d_(x+k) / l_x
abbrev pub SecondMomentByYears : Type 0
SecondMomentByYears = (b : Basis)
    → EndBy b.last_time b.lives → (pay : PlainPay) → IsValidInsurance pay → (T : ℕ) (S : ℕ → Bool)
    → second_moment b pay T S ≡ sum_over (numbers_from 0 b.last_time)
    (λ k. squared (paid_for_year b pay T k) * paying_weight b pay T S k)

-- So the second moment is told by the values of level insurances of 1, each deferred by a year
-- more, without interest.
abbrev pub without_interest : Basis → Basis
without_interest b = record b { p = λ k. 0; q = λ k. 1 }

abbrev pub SecondMomentByDeferrals : Type 0
SecondMomentByDeferrals = (b : Basis)
    → EndBy b.last_time b.lives → (pay : PlainPay) → IsValidInsurance pay → (T : ℕ) (S : ℕ → Bool)
    → pos (second_moment b pay T S) ≡ int_sum_over (numbers_from 0 b.last_time) (λ k.
    cond (nat_le pay.defer k) (pos (squared (paid_for_year b pay T k))
    *ℤ (pos (numerator (without_interest b) (level_from pay k) T S)
    -ℤ pos (numerator (without_interest b) (level_from pay (suc k)) T S))) (pos 0))
