-- The steps of a pass, for all sets of lives.
use Rattle.std.proofs.Common.{◌≡◌, ℕ, suc, ◌*◌, ◌^◌, ◌<◌, List, ℤ, pos, ◌+ℤ◌, arith, refl}
use Rattle.std.proofs.lemmas.Int.{ints}
use Rattle.halo_sums.specs.Masks.{bits}
use Rattle.halo_num.specs.Ends.{Ends, fine}
use Rattle.halo_status.specs.Pay.{PlainPay}
use Rattle.halo_model.specs.Basis.{Basis}
use Rattle.halo_model.specs.Coefficient.{form}
use Rattle.halo_model.specs.Backward.{above_zero, below_zero, gain, loss, paid_at}
use Rattle.halo_poly.specs.Poly.{coefficient_at}
use Rattle.halo_life.specs.Lists.{Lists, entry, nothing}
use Rattle.halo_compile.specs.NamedSets.{AreNamed}
use Rattle.halo_annuity.specs.SetSteps.{GrowsBy}
use Rattle.halo_annuity.specs.Worth.{EnclosesSetWorth, HoldCarried, HoldValues}
use Rattle.halo_annuity.proofs.Carried.{paid-set}

-- where nothing is paid any more
pub none-worth : (num den most w : ℕ) (i : Ends) → num ≡ 0 → i ≡ nothing → EnclosesSetWorth num den most w i
none-worth num den most w i e none = rw (e, none) (record {
  encloses = λ some. record { low = omega (arith, ints); high = omega (arith, ints) };
  narrow = record { near = omega (arith, ints) };
  within = record { low = omega (arith, ints); high = omega (arith, ints) };
})

-- both values of each set of named lives, of n, are 0
abbrev pub HoldNothing : PlainPay → ℕ → Lists → Type 0
HoldNothing pay n lists = (mask : ℕ) → mask < 2 ^ n → AreNamed pay.body mask
    → (entry lists.plus mask ≡ nothing) × (entry lists.minus mask ≡ nothing)

module _ (b : Basis) (pay : PlainPay) (T n t : ℕ) where
  pub none-held : (years : ℕ) (lists : Lists) → years ≡ 0 → HoldNothing pay n lists → HoldValues b pay T n t years lists
  none-held years lists e none mask below named =
      let is = none mask below named in
      rw e (none-worth 0 _ _ _ _ refl is.0, none-worth 0 _ _ _ _ refl is.1)

  pub none-carried : (years : ℕ) (lists : Lists)
      → years ≡ 0 → HoldNothing pay n lists → HoldCarried b pay T n t years lists
  none-carried years lists e none mask below named =
      let is = none mask below named in
      rw e (none-worth (b.q t * 0) _ _ _ _ (omega arith) is.0, none-worth (b.q t * 0) _ _ _ _ (omega arith) is.1)

  -- what is paid at t is added
  pub sets-paid : (years more paid : ℕ) (poly : List ℤ) (old new : Lists) → more ≡ suc years
      → paid ≡ paid_at pay T t → ((mask : ℕ) → mask < 2 ^ n → coefficient_at poly mask ≡ form pay t (bits n mask))
      → HoldCarried b pay T n t years old
      → ((mask : ℕ) → mask < 2 ^ n → AreNamed pay.body mask
      → GrowsBy (paid * above_zero (coefficient_at poly mask)) (entry old.plus mask) (entry new.plus mask))
      → ((mask : ℕ) → mask < 2 ^ n → AreNamed pay.body mask
      → GrowsBy (paid * below_zero (coefficient_at poly mask)) (entry old.minus mask) (entry new.minus mask))
      → HoldValues b pay T n t more new
  sets-paid years more paid poly old new e is coefficients carried plus minus mask below named =
      let p = plus mask below named in
      let m = minus mask below named in
      let c = coefficients mask below in
      rw e (
        paid-set b n (bits n mask) (gain pay T (bits n mask)) years t (entry old.plus mask)
            (entry new.plus mask) (carried mask below named).0 (rw (is, c) at p.lo) (rw (is, c) at p.hi),
        paid-set b n (bits n mask) (loss pay T (bits n mask)) years t (entry old.minus mask)
            (entry new.minus mask) (carried mask below named).1 (rw (is, c) at m.lo) (rw (is, c) at m.hi),
      )

  -- where nothing is paid at t, nothing has to be added
  pub none-paid : (years more : ℕ) (lists : Lists)
      → more ≡ suc years → paid_at pay T t ≡ 0 → HoldCarried b pay T n t years lists → HoldValues b pay T n t more lists
  none-paid years more lists e none carried mask below named =
      let later = carried mask below named in
      rw e (
        paid-set b n (bits n mask) (gain pay T (bits n mask)) years t (entry lists.plus mask)
            (entry lists.plus mask) later.0 (same _ _ (above_zero (form pay t (bits n mask))) none)
            (same _ _ (above_zero (form pay t (bits n mask))) none),
        paid-set b n (bits n mask) (loss pay T (bits n mask)) years t (entry lists.minus mask)
            (entry lists.minus mask) later.1 (same _ _ (below_zero (form pay t (bits n mask))) none)
            (same _ _ (below_zero (form pay t (bits n mask))) none),
      )
    where
      same : (z : ℤ) (p k : ℕ) → p ≡ 0 → z ≡ z +ℤ pos (p * k * fine)
      same z p k e = let none : p * k * fine ≡ 0 = rw e (omega arith) in rw none (omega (arith, ints))
