-- The values of all sets stay small numbers.
use Rattle.std.proofs.Common.{◌≡◌, ◌<◌, ℕ, zero, suc, ◌+◌, ◌*◌, ◌^◌, ◌≤◌, pos, arith}
use Rattle.std.proofs.Math.Nat.{mul-le-mul_right}
use Rattle.std.proofs.lemmas.Nat.{mul-le}
use Rattle.std.proofs.lemmas.Int.{ints}
use Rattle.halo_sums.specs.Masks.{bits}
use Rattle.halo_num.specs.Ends.{Ends, IsSized, IsWithin, fine}
use Rattle.halo_status.specs.Pay.{PlainPay}
use Rattle.halo_status.specs.ValidPay.{HasValidVary}
use Rattle.halo_status.specs.declared.pay.Vary.{Vary}
use Rattle.halo_status.specs.declared.pay.Vary.TheVariants.{Level, Increasing, Decreasing}
use Rattle.halo_model.specs.Coefficient.{form}
use Rattle.halo_model.specs.Counts.{greatest_factor}
use Rattle.halo_model.specs.Basis.{Basis}
use Rattle.halo_model.specs.Backward.{above_zero, below_zero, gain, loss, paid_at}
use Rattle.halo_life.specs.Lists.{Lists}
use Rattle.halo_life.specs.Total.{AreModestAt}
use Rattle.halo_compile.specs.NamedSets.{AreNamed}
use Rattle.halo_annuity.specs.Worth.{HoldCarried, HoldValues, paid_in_all}
use Rattle.halo_along.proofs.Counting.{paid-within}
use Rattle.halo_sums.proofs.SetMasks.{length-bits}
use Rattle.halo_compile.proofs.Coefficients.{above-sized, below-sized, coefficient-sized}

pub factor-sized : (vary : Vary) → HasValidVary vary → greatest_factor vary 200 ≤ 201
factor-sized Level h = omega arith
factor-sized Increasing h = omega arith
factor-sized (Decreasing n) h = omega (arith, h.1)

module _ (pay : PlainPay) (one : pay.amount ≡ 1) (varies : HasValidVary pay.vary) (T n mask : ℕ) (few : n ≤ 12) where
  sized : (t : ℕ) → IsSized (form pay t (bits n mask)) (2 ^ 11)
  sized t = coefficient-sized pay t (bits n mask) (omega (arith, few, length-bits n mask))

  gain-small : (t : ℕ) → t ≤ 200 → gain pay T (bits n mask) t ≤ 201 * 2 ^ 11
  gain-small t h =
      let paid : paid_at pay T t ≤ 201 = omega (arith, paid-within pay one T t 200 h, factor-sized pay.vary varies) in
      let c : above_zero (form pay t (bits n mask)) ≤ 2 ^ 11 =
      above-sized (form pay t (bits n mask)) (2 ^ 11) (sized t) in
      mul-le (paid_at pay T t) (above_zero (form pay t (bits n mask))) 201 (2 ^ 11) paid c

  loss-small : (t : ℕ) → t ≤ 200 → loss pay T (bits n mask) t ≤ 201 * 2 ^ 11
  loss-small t h =
      let paid : paid_at pay T t ≤ 201 = omega (arith, paid-within pay one T t 200 h, factor-sized pay.vary varies) in
      let c : below_zero (form pay t (bits n mask)) ≤ 2 ^ 11 =
      below-sized (form pay t (bits n mask)) (2 ^ 11) (sized t) in
      mul-le (paid_at pay T t) (below_zero (form pay t (bits n mask))) 201 (2 ^ 11) paid c

pub most-small : (paid : ℕ → ℕ) (bound years t : ℕ)
    → ((u : ℕ) → u ≤ 200 → paid u ≤ bound) → t + years ≤ 201 → paid_in_all paid t years ≤ years * bound
most-small paid bound zero t each h = omega arith
most-small paid bound (suc years) t each h =
    omega (arith, each t (omega (arith, h)), most-small paid bound years (suc t) each (omega (arith, h)))

pub small-within : (i : Ends) (most years : ℕ) → years ≤ 201
    → most ≤ years * (201 * 2 ^ 11) → IsWithin i (pos 0) (pos (most * fine)) → IsWithin i (pos 0) (pos (10 ^ 32))
small-within i most years few h within =
    let m : most ≤ 10 ^ 14 = omega (arith, few, h) in
    let n : most * fine ≤ 10 ^ 14 * fine = mul-le-mul_right fine m in
    record { low = within.low; high = omega (arith, ints, within.high, n) }

module _ (b : Basis) (pay : PlainPay)
    (one : pay.amount ≡ 1) (varies : HasValidVary pay.vary) (T n : ℕ) (few : n ≤ 12) (lists : Lists) where
  abbrev AreModestSets : Type 0
  AreModestSets = (mask : ℕ) → mask < 2 ^ n → AreNamed pay.body mask → AreModestAt mask lists

  pub values-modest : (t years : ℕ) → t + years ≤ 201 → HoldValues b pay T n t years lists → AreModestSets
  values-modest t years h values mask below named =
      let v = values mask below named in (
        small-within _ _ years (omega (arith, h)) (most-small
            (gain pay T (bits n mask)) (201 * 2 ^ 11) years t (gain-small pay one varies T n mask few) h) v.0.within,
        small-within _ _ years (omega (arith, h)) (most-small
            (loss pay T (bits n mask)) (201 * 2 ^ 11) years t (loss-small pay one varies T n mask few) h) v.1.within,
      )

  pub carried-modest : (t years : ℕ)
      → suc t + years ≤ 201 → HoldCarried b pay T n t years lists → AreModestSets
  carried-modest t years h values mask below named =
      let v = values mask below named in (
        small-within _ _ years (omega (arith, h)) (most-small (gain pay T (bits n mask))
            (201 * 2 ^ 11) years (suc t) (gain-small pay one varies T n mask few) h) v.0.within,
        small-within _ _ years (omega (arith, h)) (most-small (loss pay T (bits n mask))
            (201 * 2 ^ 11) years (suc t) (loss-small pay one varies T n mask few) h) v.1.within,
      )
