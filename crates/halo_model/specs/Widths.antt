-- How wide the printed values of a contract may be, in printed units of 10^-9.
use Rattle.std.specs.Prelude.{ℕ, ◌+◌, ◌*◌, List}
use Rattle.halo_num.specs.Ends.{printed_ceiling}
use Rattle.halo_sums.specs.Sums.{sum_over}
use Rattle.halo_status.specs.Tree.{Tree}
use Rattle.halo_status.specs.Pay.{PlainPay}
use Rattle.halo_model.specs.Basis.{Basis}
use Rattle.halo_model.specs.Counts.{measures_of, most_worth, width_count}
use Rattle.halo_contract.specs.Premium.{premium_pay}

-- a width in fine units, printed outward
abbrev pub printed_width : ℕ → ℕ
printed_width fine_units = 2 + printed_ceiling fine_units

-- the width in fine units of a pay and of each of its parts, and the most that it can be worth
abbrev pub pay_width : Basis → PlainPay → ℕ
pay_width b pay = pay.amount * width_count (measures_of b pay)

abbrev pub pay_most : Basis → PlainPay → ℕ
pay_most b pay = pay.amount * most_worth pay.kind (measures_of b pay)

-- the same of all pays
abbrev pub benefit_width : Basis → List PlainPay → ℕ
benefit_width b pays = sum_over pays (pay_width b)

abbrev pub benefit_most : Basis → List PlainPay → ℕ
benefit_most b pays = sum_over pays (pay_most b)

-- The width of a premium: the annuity of the premium is worth at least 1, so the quotient is as
-- wide as the benefits, with their size times the width of the annuity, and the rounding.
abbrev pub premium_width : Basis → List PlainPay → Tree → ℕ
premium_width b pays status =
    benefit_width b pays + benefit_most b pays * pay_width b (premium_pay status) + 2

-- the width of a reserve with a premium, whose annuity is worth at most 1 at each time
abbrev pub reserve_width : Basis → List PlainPay → Tree → ℕ
reserve_width b pays status =
    benefit_width b pays + benefit_most b pays * pay_width b (premium_pay status)
    + (b.last_time + 1) * premium_width b pays status + 2

-- what is printed: a pay or a part of it, the total and a reserve without a premium, the premium,
-- and a reserve with one
unfoldable pub printed_pay_width : Basis → PlainPay → ℕ
printed_pay_width b pay = printed_width (pay_width b pay)

unfoldable pub printed_total_width : Basis → List PlainPay → ℕ
printed_total_width b pays = printed_width (benefit_width b pays)

unfoldable pub printed_premium_width : Basis → List PlainPay → Tree → ℕ
printed_premium_width b pays status = printed_width (premium_width b pays status)

unfoldable pub printed_reserve_width : Basis → List PlainPay → Tree → ℕ
printed_reserve_width b pays status = printed_width (reserve_width b pays status)
