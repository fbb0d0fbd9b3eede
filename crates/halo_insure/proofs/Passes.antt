-- The pass over the years, from the horizon back.
use Rattle.std.proofs.Common.{◌≡◌, ℕ, ◌+◌, ◌*◌, ◌-◌, ◌^◌, ◌≤◌, arith, List, Bool, ℤ}
use Rattle.std.proofs.Math.Nat.{mul-le-mul_left, mul-le-mul_right, pow-le-pow_right}
use Rattle.std.proofs.lemmas.Nat.{mul-le}
use Rattle.halo_sums.specs.Masks.{bits}
use Rattle.halo_num.specs.Ends.{Ends}
use Rattle.halo_status.specs.Pay.{PlainPay}
use Rattle.halo_contract.specs.declared.ties.Ties.{Ties}
use Rattle.halo_contract.specs.declared.ties.Ties.TheVariants.{Even, Declared}
use Rattle.halo_model.specs.Backward.{above_zero, below_zero}
use Rattle.halo_model.specs.Basis.{Basis}
use Rattle.halo_model.specs.Horizon.{horizon}
use Rattle.halo_model.specs.SetValue.{SomeEvents}
use Rattle.halo_life.specs.Lists.{Lists, entry}
use Rattle.halo_life.specs.YearOfSets.{products_of_leavings}
use Rattle.halo_insure.specs.Total.{EnclosesSet, HoldDues}

-- from the horizon on nothing is due, on any events
none-due : (part : ℤ → ℕ) (b : Basis) (pay : PlainPay) (events others : SomeEvents) (s : List Bool) (T : ℕ) (i : Ends)
    → horizon b.lives pay.body ≤ T → EnclosesSet part b pay events s T i → EnclosesSet part b pay others s T i
none-due part b pay events others s T i past held =
    let none : horizon b.lives pay.body - T ≡ 0 = omega arith in
    let same = (rw none at held) in
    rw none (record { encloses = same.encloses; from = same.from; bound = same.bound; narrow = same.narrow })

pub any-events : (b : Basis) (pay : PlainPay) (events others : SomeEvents) (n T : ℕ) (lists : Lists)
    → horizon b.lives pay.body ≤ T → HoldDues b pay events n T lists → HoldDues b pay others n T lists
any-events b pay events others n T lists past held mask below named = (
  none-due above_zero b pay events others (bits n mask) T (entry lists.plus mask) past (held mask below named).0,
  none-due below_zero b pay events others (bits n mask) T (entry lists.minus mask) past (held mask below named).1,
)

-- a year makes few enough products, by either rule for ties, and so do some of the years of a horizon
year-cost : (ties : Ties) (n : ℕ) → products_of_leavings ties n + 5 * 2 ^ n ≤ 8 * ((n + 1) * 2 ^ n)
year-cost Declared n =
    let some : 1 * 2 ^ n ≤ (n + 1) * 2 ^ n = mul-le-mul_right (2 ^ n) (omega arith) in omega (arith, some)
year-cost Even n = omega arith

pub pass-cost : (ties : Ties) (years horizon n : ℕ) → years ≤ horizon
    → (products_of_leavings ties n + 5 * 2 ^ n) * years ≤ 8 * (horizon + 1) * (n + 1) * 2 ^ n
pass-cost ties years horizon n h =
    let all = mul-le (products_of_leavings ties n + 5 * 2 ^ n) years
    (8 * ((n + 1) * 2 ^ n)) (horizon + 1) (year-cost ties n) (omega (arith, h)) in
    omega (arith, all)

-- and so are those for the last year of a term alone
pub end-cost : (horizon n : ℕ) → horizon + 2 ^ n ≤ 8 * (horizon + 1) * (n + 1) * 2 ^ n
end-cost horizon n =
    let some : 2 ^ 0 ≤ 2 ^ n = pow-le-pow_right (omega arith) {i = 0} (omega arith) in
    let once : horizon * 1 ≤ horizon * 2 ^ n = mul-le-mul_left horizon some in
    omega (arith, once)
