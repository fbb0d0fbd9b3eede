-- What an insurance pays in the years of a valuation if its body fails in them.
use Rattle.std.specs.Prelude.{ℕ, ◌+◌, ◌-◌, ◌*◌, Bool, cond, nat_le, ℤ, pos, neg_ℤ}
use Rattle.halo_sums.specs.Masks.{has_bit}
use Rattle.halo_sums.specs.Sums.{int_sum_over, numbers_from}
use Rattle.halo_num.specs.Ends.{Ends, HasWidth, IsWithin, fine}
use Rattle.halo_num.specs.Enclosure.{Encloses}
use Rattle.halo_status.specs.Pay.{PlainPay, pay_of}
use Rattle.halo_contract.specs.declared.ties.Ties.{Ties}
use Rattle.halo_model.specs.Basis.{Basis}
use Rattle.halo_model.specs.ByYears.{year_part}
use Rattle.halo_model.specs.Counts.{greatest_factor}
use Rattle.halo_model.specs.Enclosed.{of_one}
use Rattle.halo_model.specs.Payment.{payment}
use Rattle.halo_along.specs.Along.{basis_of_tree_task}
use Rattle.halo_along.specs.Years.{present_whole, width_of_one}
use Rattle.halo_along.specs.declared.tree_task.TreeTask.{TreeTask}
use Rattle.halo_compile.specs.declared.payment.TheConstants.{MOST_PAID}

-- what an insurance pays for year k if its body fails then: nothing before the deferral
abbrev pub insured_in : PlainPay → ℕ → ℕ
insured_in pay k = cond (nat_le pay.defer k) (payment pay (k - pay.defer)) 0

-- what it pays for so many years from T on adds to its value at T
abbrev pub insured_value_of_years : Basis → PlainPay → ℕ → (ℕ → Bool) → ℕ → ℤ
insured_value_of_years b pay T S years =
    int_sum_over (numbers_from T years) (year_part b pay T S)

-- i encloses such a value at T, is at most w wide, and is no further from 0 than so many ones
pub record EnclosesInsured
    (b : Basis) (T : ℕ) (S : ℕ → Bool) (value : ℤ) (w most : ℕ) (i : Ends) : Type 0 where
  pub encloses : Encloses i value (present_whole b T S)
  pub narrow : HasWidth i w
  pub near : IsWithin i (neg_ℤ (pos (most * fine))) (pos (most * fine))

-- how wide the value of a year may be: the values of 1 paid at its two ends if the body exists
-- then, the discount factor of the year and the rounding of its product, times the factor
abbrev pub insured_width : {n : ℕ} → TreeTask n → ℕ
insured_width along =
    (2 * width_of_one along + 2) * greatest_factor along.pay.now.vary along.horizon

-- i encloses the value at the time of the group of what an insurance of 1 pays for year k, by
-- either rule for ties
unfoldable pub EnclosesInsuredYear : {n : ℕ} → TreeTask n → ℕ → Ends → Type 0
EnclosesInsuredYear along k i = (ties : Ties) →
    let b = basis_of_tree_task along ties in
    let start : ℕ = along.group.now.start in
    let living : ℕ → Bool = has_bit along.group.now.alive in
    EnclosesInsured b start living (year_part b (of_one (pay_of along.pay.now)) start living k)
    (insured_width along) MOST_PAID i

-- and of what it pays for so many years from that time on
unfoldable pub EnclosesInsuredYears : {n : ℕ} → TreeTask n → ℕ → Ends → Type 0
EnclosesInsuredYears along years i = (ties : Ties) →
    let b = basis_of_tree_task along ties in
    let start : ℕ = along.group.now.start in
    let living : ℕ → Bool = has_bit along.group.now.alive in
    EnclosesInsured b start living
    (insured_value_of_years b (of_one (pay_of along.pay.now)) start living years)
    (years * insured_width along) (years * MOST_PAID) i
