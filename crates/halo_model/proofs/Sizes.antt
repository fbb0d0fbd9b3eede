-- Within the limits of contracts, how much pays can be worth.
use Rattle.std.proofs.Common.{ℕ, ◌+◌, ◌*◌, ◌≤◌, arith, List, [], ◌∷◌, mul-le-mul_left}
use Rattle.std.specs.Prelude.{All}
use Rattle.std.proofs.lemmas.List.Elements.{All-head, All-tail}
use Rattle.std.proofs.lemmas.Nat.{mul-le}
use Rattle.halo_sums.specs.Sums.{sum_over}
use Rattle.halo_status.specs.Pay.{PlainPay}
use Rattle.halo_status.specs.ValidPay.{HasValidVary}
use Rattle.halo_status.specs.declared.pay.Kind.{Kind}
use Rattle.halo_status.specs.declared.pay.Kind.TheVariants.{Insurance, Due, Immediate}
use Rattle.halo_status.specs.declared.pay.Vary.{Vary}
use Rattle.halo_status.specs.declared.pay.Vary.TheVariants.{Level, Increasing, Decreasing}
use Rattle.halo_model.specs.Basis.{Basis}
use Rattle.halo_model.specs.Counts.{Measures, greatest_factor, measures_of, most_worth}
use Rattle.halo_model.specs.EnclosureLaws.{BenefitsFit, DueFits, IsShortPay}
use Rattle.halo_model.specs.Widths.{benefit_most, pay_most}

factor-bound : (vary : Vary) (years : ℕ) → years ≤ 200 → HasValidVary vary → greatest_factor vary years ≤ 201
factor-bound Level years short valid = omega arith
factor-bound Increasing years short valid = omega arith
factor-bound (Decreasing n) years short valid = omega (arith, valid.1)

most-bound : (kind : Kind) (m : Measures) → m.horizon ≤ 200 → m.factor ≤ 201 → most_worth kind m ≤ 40401
unfolding most_worth
most-bound Insurance m short factor = omega arith
most-bound Due m short factor = omega (arith, mul-le m.factor (m.horizon + 1) 201 201 factor (omega arith))
most-bound Immediate m short factor = omega (arith, mul-le m.factor (m.horizon + 1) 201 201 factor (omega arith))

-- what a pay of amount 1 within the limits of contracts is worth at most: 201 payments of at most 201
pub one-bound : (b : Basis) (pay : PlainPay) → IsShortPay b pay → most_worth pay.kind (measures_of b pay) ≤ 40401
one-bound b pay short =
    most-bound pay.kind (measures_of b pay) short.years (factor-bound pay.vary _ short.years short.vary)

amounts-bound : (b : Basis) (pays : List PlainPay)
    → All (IsShortPay b) pays → benefit_most b pays ≤ 40401 * sum_over pays (λ pay. pay.amount)
amounts-bound b [] short = omega arith
amounts-bound b (pay ∷ pays) short =
    let most = one-bound b pay (All-head (IsShortPay b) pay pays short) in
    let times : pay_most b pay ≤ pay.amount * 40401 = mul-le-mul_left pay.amount most in
    omega (arith, times, amounts-bound b pays (All-tail (IsShortPay b) pay pays short))

pub benefits-fit : BenefitsFit
benefits-fit b pays short amounts = omega (arith, amounts-bound b pays short)

pub due-fits : DueFits
unfolding most_worth
due-fits b status short = omega arith
