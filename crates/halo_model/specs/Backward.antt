-- Annuities over the years backward: what each set of lives adds to a value, from the last time to
-- the start of the valuation.
use Rattle.std.specs.Prelude.{◌≡◌, ◌≢◌, ℕ, zero, suc, ◌+◌, ◌-◌, ◌*◌, ◌<◌, ◌≤◌, Bool, true, false, cond, not, ◌&&◌, nat_le, nat_lt, List, [], ◌∷◌, length, None, ℤ, pos, negsuc, ◌-ℤ◌, ◌*ℤ◌}
use Rattle.halo_sums.specs.Sums.{int_sum_over}
use Rattle.halo_sums.specs.Sets.{in_set, sets}
use Rattle.halo_status.specs.Exists.{exists}
use Rattle.halo_status.specs.Naming.{NamesLivesBelow}
use Rattle.halo_status.specs.Nodes.{HasPositiveRanks, HasShortLists}
use Rattle.halo_status.specs.Pay.{PlainPay}
use Rattle.halo_status.specs.declared.pay.Kind.{Kind}
use Rattle.halo_status.specs.declared.pay.Kind.TheVariants.{Insurance, Due, Immediate}
use Rattle.halo_status.specs.declared.pay.Vary.TheVariants.{Level}
use Rattle.halo_status.specs.declared.view.View.TheVariants.{Due as DueView}
use Rattle.halo_status.specs.View.{is_on}
use Rattle.halo_model.specs.Life.{AreLives, after_first}
use Rattle.halo_model.specs.Outcome.{joint_survivors}
use Rattle.halo_model.specs.Basis.{Basis, accumulated, taken}
use Rattle.halo_model.specs.Payment.{payment}
use Rattle.halo_model.specs.Coefficient.{form}
use Rattle.halo_model.specs.Counts.{measures_of, most_worth}
use Rattle.halo_model.specs.Horizon.{horizon}
use Rattle.halo_model.specs.Segment.{last_time_of_form}
use Rattle.halo_model.specs.Value.{denominator, numerator}

-- the part of an integer above 0, and the part below it
abbrev pub above_zero : ℤ → ℕ
above_zero (pos n) = n
above_zero (negsuc n) = 0

abbrev pub below_zero : ℤ → ℕ
below_zero (pos n) = 0
below_zero (negsuc n) = suc n

-- whether an annuity of a kind with a deferral may pay at time t of a valuation at T
abbrev pub may_pay : Kind → ℕ → ℕ → ℕ → Bool
may_pay Due defer T t = nat_le defer t && nat_le T t
may_pay Immediate defer T t = nat_lt defer t && nat_lt T t
may_pay Insurance defer T t = false

-- how many years have passed since the deferral where it pays at time t
abbrev pub years_passed : Kind → ℕ → ℕ → ℕ
years_passed Due defer t = t - defer
years_passed Immediate defer t = t - defer - 1
years_passed Insurance defer t = t - defer

-- what an annuity pays at time t of a valuation at T where its body exists
abbrev pub paid_at : PlainPay → ℕ → ℕ → ℕ
paid_at pay T t =
    cond (may_pay pay.kind pay.defer T t) (payment pay (years_passed pay.kind pay.defer t)) 0

-- what the coefficient of a set s makes of it: what is added where the lives of s are alive, and
-- what is taken off
abbrev pub gain : PlainPay → ℕ → List Bool → ℕ → ℕ
gain pay T s t = paid_at pay T t * above_zero (form pay t s)

abbrev pub loss : PlainPay → ℕ → List Bool → ℕ → ℕ
loss pay T s t = paid_at pay T t * below_zero (form pay t s)

-- The value at time t of what is paid in so many years from t on while all lives of a set s are
-- alive, who are alive at t. It is what is paid at t, and the value at the next time, discounted
-- for a year and times the chance to survive the year. It is told in the parts of which 1 has the
-- survivors of s at t times the interest of all years from t on.
-- ä_(x+t) = 1 + v · p_(x+t) · ä_(x+t+1)
abbrev pub backward : Basis → List Bool → (ℕ → ℕ) → ℕ → ℕ → ℕ
backward b s paid t zero = 0
backward b s paid t (suc years) =
    paid t * (joint_survivors t (in_set s) b.lives * accumulated b t)
    + b.q t * backward b s paid (suc t) years

-- whether a set lies in the set U, and the lives of U that are not in the set
abbrev pub lies_in : List Bool → (ℕ → Bool) → Bool
lies_in [] U = true
lies_in (false ∷ s) U = lies_in s (after_first U)
lies_in (true ∷ s) U = U 0 && lies_in s (after_first U)

abbrev pub outside : (ℕ → Bool) → List Bool → ℕ → Bool
outside U s i = U i && not (in_set s i)

-- what the coefficient of a set adds to a value at T where the lives of U are alive, over so many
-- years
abbrev pub set_part : Basis → PlainPay → ℕ → (ℕ → Bool) → ℕ → List Bool → ℤ
set_part b pay T U years s =
    cond (lies_in s U)
    ((pos (backward b s (gain pay T s) T years) -ℤ pos (backward b s (loss pay T s) T years))
    *ℤ pos (joint_survivors T (outside U s) b.lives))
    (pos 0)

-- an annuity is worth what the sets of lives add
abbrev pub AnnuityBySets : Type 0
AnnuityBySets = (b : Basis)
    → AreLives b.lives → (pay : PlainPay) → pay.kind ≢ Insurance → pay.mark ≡ None
    → (T : ℕ) → T ≤ b.last_time → (U : ℕ → Bool)
    → pos (numerator b pay T U) ≡ pos (length (taken b))
    *ℤ int_sum_over (sets (length b.lives)) (set_part b pay T U (suc b.last_time - T))

-- after the last time of its form a pay has no coefficient on lives that are alive
abbrev pub NothingAfterHorizon : Type 0
NothingAfterHorizon = (b : Basis) → AreLives b.lives
    → (pay : PlainPay) → pay.mark ≡ None → HasShortLists pay.body → HasPositiveRanks pay.body
    → (t : ℕ) → last_time_of_form pay.kind (horizon b.lives pay.body) < t
    → (s : List Bool) → length s ≡ length b.lives
    → form pay t s *ℤ pos (joint_survivors t (in_set s) b.lives) ≡ pos 0

-- an annuity of 1 is worth at most its greatest factor at each time of its form
abbrev pub AnnuityIsBounded : Type 0
AnnuityIsBounded = (b : Basis) → AreLives b.lives → (pay : PlainPay) → pay.kind ≢ Insurance
    → pay.mark ≡ None → pay.amount ≡ 1 → HasShortLists pay.body → HasPositiveRanks pay.body
    → (T : ℕ) → T ≤ b.last_time → (U : ℕ → Bool)
    → numerator b pay T U ≤ most_worth pay.kind (measures_of b pay) * denominator b T U

-- and an annuity-due of 1, level and without deferral, at least 1 where its body exists at the
-- start
abbrev pub DueIsWorthOne : Type 0
DueIsWorthOne = (b : Basis) → AreLives b.lives → (pay : PlainPay)
    → pay.kind ≡ Due → pay.mark ≡ None → pay.amount ≡ 1 → pay.vary ≡ Level → pay.defer ≡ 0
    → NamesLivesBelow (length b.lives) pay.body
    → (T : ℕ) → T ≤ b.last_time → (U : ℕ → Bool) → exists U (is_on DueView T) pay.body ≡ true
    → denominator b T U ≤ numerator b pay T U
