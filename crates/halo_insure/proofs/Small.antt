-- The values of all sets stay small numbers.
use Rattle.std.proofs.Common.{◌≡◌, ℕ, zero, suc, ◌+◌, ◌*◌, ◌-◌, ◌^◌, ◌<◌, ◌≤◌, arith, List, length, Bool, true, false, cond, ◌&&◌, nat_le, nat_lt, ℤ, pos, ◌-ℤ◌, ◌≤ℤ◌, ⊎_elim}
use Rattle.std.proofs.Math.Nat.{mul-le-mul_right}
use Rattle.std.proofs.lemmas.Bool.{cases_lt}
use Rattle.std.proofs.lemmas.Int.{ints}
use Rattle.std.proofs.lemmas.Nat.{mul-le}
use Rattle.halo_sums.specs.Masks.{bits}
use Rattle.halo_sums.proofs.SetMasks.{length-bits}
use Rattle.halo_num.specs.Ends.{Ends, IsSized, IsWithin, fine}
use Rattle.halo_status.specs.Pay.{PlainPay}
use Rattle.halo_status.specs.ValidPay.{HasValidVary}
use Rattle.halo_status.specs.declared.pay.Vary.{Vary}
use Rattle.halo_status.specs.declared.pay.Vary.TheVariants.{Level, Increasing, Decreasing}
use Rattle.halo_model.specs.Backward.{above_zero, below_zero}
use Rattle.halo_model.specs.Basis.{Basis}
use Rattle.halo_model.specs.Coefficient.{form}
use Rattle.halo_model.specs.Horizon.{horizon}
use Rattle.halo_model.specs.Payment.{factor, payment}
use Rattle.halo_model.specs.SetValue.{SomeEvents}
use Rattle.halo_life.specs.Lists.{Lists}
use Rattle.halo_life.specs.Total.{AreModestAt}
use Rattle.halo_compile.specs.NamedSets.{AreNamed}
use Rattle.halo_compile.proofs.Coefficients.{above-sized, below-sized, coefficient-sized}
use Rattle.halo_along.proofs.Counting.{cond-within}
use Rattle.halo_insure.specs.declared.due.TheConstants.{GREATEST_COEFFICIENT}
use Rattle.halo_insure.specs.Dues.{coefficient_before, due_of, ends_count}
use Rattle.halo_insure.specs.OneSet.{most_due}
use Rattle.halo_insure.specs.Total.{HoldDues}

factor-small : (vary : Vary) (passed : ℕ) → HasValidVary vary → passed ≤ 200 → factor vary passed ≤ 201
factor-small Level passed h few = omega arith
factor-small Increasing passed h few = omega (arith, few)
factor-small (Decreasing n) passed h few = omega (arith, h.1)

-- no more is due for a set in a year than 201 times its coefficient and what that can lose
module _ (part : ℤ → ℕ) (sized : (z : ℤ) (n : ℕ) → IsSized z n → part z ≤ n) (pay : PlainPay) (one : pay.amount ≡ 1)
    (varies : HasValidVary pay.vary) (events : SomeEvents) (years : ℕ) (s : List Bool) (few : length s ≤ 12) where
  before-sized : (t : ℕ) → IsSized (coefficient_before pay years t s) (2 ^ 11)
  before-sized t = each (nat_lt t years) (coefficient-sized pay t s few)
    where
      each : (b : Bool) → IsSized (form pay t s) (2 ^ 11) → IsSized (cond b (form pay t s) (pos 0)) (2 ^ 11)
      each true h = h
      each false h = record { low = omega (arith, ints); high = omega (arith, ints) }

  lost-sized : (k : ℕ) → IsSized (form pay k s -ℤ coefficient_before pay years (suc k) s) (2 ^ 12)
  lost-sized k =
      let h = coefficient-sized pay k s few in
      let n = before-sized (suc k) in
      record { low = omega (arith, ints, h.low, n.high); high = omega (arith, ints, h.high, n.low) }

  paid-small : (k : ℕ) → k ≤ 200 → payment pay (k - pay.defer) ≤ 201
  paid-small k h = rw one (omega (arith, factor-small pay.vary (k - pay.defer) varies (omega (arith, h))))

  year-small : (k : ℕ) → k ≤ 200 → (due_of part pay events years s k).on_leaving
      + (due_of part pay events years s k).at_end ≤ 201 * 2 ^ 11 + 201 * 2 ^ 12
  year-small k h =
      let now = mul-le (payment pay (k - pay.defer)) (part (form pay k s)) 201
      (2 ^ 11) (paid-small k h) (sized (form pay k s) (2 ^ 11) (coefficient-sized pay k s few)) in
      let end = mul-le (payment pay (k - pay.defer)) (part (form pay k s -ℤ coefficient_before pay years (suc k) s)) 201
      (2 ^ 12) (paid-small k h) (sized _ (2 ^ 12) (lost-sized k)) in
      omega (
        arith,
        cond-within (nat_le pay.defer k) (payment pay (k - pay.defer) * part (form pay k s)) (201 * 2 ^ 11) now,
        cond-within (nat_le pay.defer k && ends_count pay events (suc k))
            (payment pay (k - pay.defer) * part (form pay k s -ℤ coefficient_before pay years (suc k) s))
            (201 * 2 ^ 12) end,
      )

  pub most-small : (more k : ℕ)
      → k + more ≤ 201 → most_due (due_of part pay events years s) k more ≤ more * (201 * 2 ^ 11 + 201 * 2 ^ 12)
  most-small zero k h = omega arith
  most-small (suc more) k h = omega (arith, year-small k (omega (arith, h)), most-small more (suc k) (omega (arith, h)))

pub small-within : (i : Ends) (most years : ℕ) → years ≤ 201 → most ≤ years * (201 * 2 ^ 11 + 201 * 2 ^ 12)
    → pos 0 ≤ℤ i.lo → i.hi ≤ℤ pos (most * fine) → IsWithin i (pos 0) (pos (10 ^ 32))
small-within i most years few h from bound =
    let m : most ≤ 10 ^ 14 = omega (arith, few, h) in
    let n : most * fine ≤ 10 ^ 14 * fine = mul-le-mul_right fine m in
    record { low = from; high = omega (arith, ints, bound, n) }

pub dues-modest : (b : Basis) (pay : PlainPay)
    → pay.amount ≡ 1 → HasValidVary pay.vary → horizon b.lives pay.body ≤ 200 → (events : SomeEvents) (n : ℕ)
    → n ≤ 12 → (t : ℕ) (lists : Lists) → HoldDues b pay events n t lists
    → (mask : ℕ) → mask < 2 ^ n → AreNamed pay.body mask → AreModestAt mask lists
dues-modest b pay one varies in_time events n few t lists held mask below named =
    let H : ℕ = horizon b.lives pay.body in
    let s : List Bool = bits n mask in
    let short : length s ≤ 12 = omega (arith, few, length-bits n mask) in
    let v = held mask below named in (
      small-within _ _ (H - t) (omega (arith, in_time)) (small above_zero above-sized s short) v.0.from v.0.bound,
      small-within _ _ (H - t) (omega (arith, in_time)) (small below_zero below-sized s short) v.1.from v.1.bound,
    )
  where
    small : (part : ℤ → ℕ) → ((z : ℤ) (n : ℕ) → IsSized z n → part z ≤ n) → (s : List Bool) → length s ≤ 12
        → most_due (due_of part pay events (horizon b.lives pay.body) s) t (horizon b.lives pay.body - t)
        ≤ (horizon b.lives pay.body - t) * (201 * 2 ^ 11 + 201 * 2 ^ 12)
    small part sized s short = ⊎_elim
        (λ (past : horizon b.lives pay.body < t). let none : horizon b.lives pay.body - t ≡ 0 = omega arith in
        rw none (omega arith))
        (λ (before : t ≤ horizon b.lives pay.body). most-small part sized pay one varies events
        (horizon b.lives pay.body) s short (horizon b.lives pay.body - t) t (omega (arith, before, in_time)))
        (cases_lt (horizon b.lives pay.body) t)

-- the coefficient of a set of a group
pub coefficient-within : (pay : PlainPay) (t n mask : ℕ) → n ≤ 12
    → IsSized (form pay t (bits n mask)) GREATEST_COEFFICIENT
coefficient-within pay t n mask few = coefficient-sized pay t (bits n mask) (omega (arith, few, length-bits n mask))
