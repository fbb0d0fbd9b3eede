-- What an annuity pays in some years of a valuation, and its present value along the tree.
use Rattle.std.specs.Prelude.{ℕ, ◌+◌, ◌-◌, ◌*◌, Bool, ℤ, pos, ◌*ℤ◌}
use Rattle.halo_sums.specs.Masks.{has_bit}
use Rattle.halo_sums.specs.Sums.{int_sum_over, numbers_from}
use Rattle.halo_num.specs.Ends.{Ends, HasWidth, IsWithin, fine}
use Rattle.halo_num.specs.Enclosure.{Encloses}
use Rattle.halo_interest.specs.Powers.{IsPower}
use Rattle.halo_interest.specs.Rates.{discount_denominator, discount_numerator}
use Rattle.halo_status.specs.Nodes.{nodes}
use Rattle.halo_status.specs.Pay.{PlainPay, pay_of}
use Rattle.halo_contract.specs.declared.ties.Ties.{Ties}
use Rattle.halo_model.specs.Backward.{paid_at}
use Rattle.halo_model.specs.Basis.{Basis, accumulated, discounted}
use Rattle.halo_model.specs.Counts.{greatest_factor}
use Rattle.halo_model.specs.Enclosed.{of_one}
use Rattle.halo_model.specs.Outcome.{joint_survivors}
use Rattle.halo_model.specs.Part.{existing_weight}
use Rattle.halo_model.specs.Segment.{first_time}
use Rattle.halo_along.specs.Along.{basis_of_tree_task}
use Rattle.halo_along.specs.declared.tree_task.TreeTask.{TreeTask}
use Rattle.halo_compile.specs.declared.payment.TheConstants.{MOST_PAID}

-- in which parts present values at T are told, with the lives of S alive
abbrev pub present_whole : Basis → ℕ → (ℕ → Bool) → ℕ
present_whole b T S = joint_survivors T S b.lives * accumulated b T

-- the value at T of 1 paid at time t if the body of a pay exists then: the discount factor times
-- the weight with which it exists
abbrev pub present_value_of_one : Basis → PlainPay → ℕ → (ℕ → Bool) → ℕ → ℤ
present_value_of_one b pay T S t = pos (discounted b T t) *ℤ existing_weight b pay T S t

-- of what an annuity pays at time t
abbrev pub present_value : Basis → PlainPay → ℕ → (ℕ → Bool) → ℕ → ℤ
present_value b pay T S t = present_value_of_one b pay T S t *ℤ pos (paid_at pay T t)

-- and of what it pays in so many years from T on: at the beginning of each, or at its end where it
-- is immediate
abbrev pub present_value_of_years : Basis → PlainPay → ℕ → (ℕ → Bool) → ℕ → ℤ
present_value_of_years b pay T S years =
    int_sum_over (numbers_from (T + first_time pay.kind) years) (present_value b pay T S)

-- i encloses a present value at T, is at most w wide, and lies from 0 to so many ones
pub record EnclosesPresent
    (b : Basis) (T : ℕ) (S : ℕ → Bool) (value : ℤ) (w most : ℕ) (i : Ends) : Type 0 where
  pub encloses : Encloses i value (present_whole b T S)
  pub narrow : HasWidth i w
  pub within : IsWithin i (pos 0) (pos (most * fine))

-- i encloses the discount factor of the years from the time of the group to time t, at most 3 wide
-- for each of them
abbrev pub IsDiscount : {n : ℕ} → TreeTask n → ℕ → Ends → Type 0
IsDiscount along t i =
    let interest = along.interest.now in
    let start : ℕ = along.group.now.start in
    IsPower (discount_numerator interest) (discount_denominator interest) start (t - start) i

-- how wide the value of 1 paid at a time up to the horizon may be: its discount factor by 3 for
-- each year, its chance by 1 for each place of a life and for each node, and the rounding of their
-- product
abbrev pub width_of_one : {n : ℕ} → TreeTask n → ℕ
width_of_one along = 3 * along.horizon + 2 * nodes (pay_of along.pay.now).body + 1

-- and that of a payment: times the greatest factor
abbrev pub width_of_payment : {n : ℕ} → TreeTask n → ℕ
width_of_payment along = width_of_one along * greatest_factor along.pay.now.vary along.horizon

-- i encloses the value at the time of the group of 1 paid at time t if the body exists then, by
-- either rule for ties
unfoldable pub EnclosesOnePaid : {n : ℕ} → TreeTask n → ℕ → Ends → Type 0
EnclosesOnePaid along t i = (ties : Ties) →
    let b = basis_of_tree_task along ties in
    let start : ℕ = along.group.now.start in
    let living : ℕ → Bool = has_bit along.group.now.alive in
    EnclosesPresent b start living
    (present_value_of_one b (of_one (pay_of along.pay.now)) start living t)
    (width_of_one along) 1 i

-- of what an annuity of 1 pays then
unfoldable pub EnclosesPayment : {n : ℕ} → TreeTask n → ℕ → Ends → Type 0
EnclosesPayment along t i = (ties : Ties) →
    let b = basis_of_tree_task along ties in
    let start : ℕ = along.group.now.start in
    let living : ℕ → Bool = has_bit along.group.now.alive in
    EnclosesPresent b start living (present_value b (of_one (pay_of along.pay.now)) start living t)
    (width_of_payment along) MOST_PAID i

-- and of what it pays in so many years from that time on
unfoldable pub EnclosesYears : {n : ℕ} → TreeTask n → ℕ → Ends → Type 0
EnclosesYears along years i = (ties : Ties) →
    let b = basis_of_tree_task along ties in
    let start : ℕ = along.group.now.start in
    let living : ℕ → Bool = has_bit along.group.now.alive in
    EnclosesPresent b start living
    (present_value_of_years b (of_one (pay_of along.pay.now)) start living years)
    (years * width_of_payment along) (years * MOST_PAID) i
