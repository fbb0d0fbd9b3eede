-- A valuation at one time, and at the next.
use Rattle.std.proofs.Common.{◌≡◌, ◌≢◌, ℕ, zero, suc, ◌+◌, ◌*◌, ◌-◌, ◌<◌, ◌≤◌, List, Bool, true, false, ◌&&◌, cond, nat_le, nat_lt, arith, refl, ap, sym, ◌∙◌}
use Rattle.std.proofs.lemmas.Bool.Decides.{nat_tests}
use Rattle.halo_sums.specs.Sets.{in_set}
use Rattle.halo_sums.specs.Masks.{bits}
use Rattle.halo_num.specs.Ends.{Ends}
use Rattle.halo_status.specs.Pay.{PlainPay}
use Rattle.halo_status.specs.declared.pay.Kind.{Kind}
use Rattle.halo_status.specs.declared.pay.Kind.TheVariants.{Insurance, Due, Immediate}
use Rattle.halo_model.specs.Basis.{Basis, accumulated}
use Rattle.halo_model.specs.Outcome.{joint_survivors}
use Rattle.halo_model.specs.Payment.{payment}
use Rattle.halo_model.specs.Coefficient.{form}
use Rattle.halo_model.specs.Backward.{above_zero, backward, below_zero, gain, loss, may_pay, paid_at, years_passed}
use Rattle.halo_model.specs.Segment.{last_time_of_form}
use Rattle.halo_life.specs.Lists.{Lists, entry}
use Rattle.halo_annuity.specs.Worth.{EnclosesCarried, EnclosesSet, HoldCarried, HoldValues, paid_in_all, waited}
use Rattle.halo_annuity.proofs.Passes.{HoldNothing, none-carried, none-held, none-paid}

-- what is paid alike from a time on is worth the same
module _ (b : Basis) (n : ℕ) (s : List Bool) (f g : ℕ → ℕ) where
  abbrev pub AlikeFrom : ℕ → Type 0
  AlikeFrom t = (u : ℕ) → t ≤ u → f u ≡ g u

  backward-alike : (years t : ℕ) → AlikeFrom t → backward b s f t years ≡ backward b s g t years
  backward-alike zero t h = refl
  backward-alike (suc years) t h =
      rw (h t (omega arith), backward-alike years (suc t) (λ u from. h u (omega arith))) refl

  most-alike : (years t : ℕ) → AlikeFrom t → paid_in_all f t years ≡ paid_in_all g t years
  most-alike zero t h = refl
  most-alike (suc years) t h = omega (arith, h t (omega arith), most-alike years (suc t) (λ u from. h u (omega arith)))

  waited-alike : (years t : ℕ) → AlikeFrom t → waited f t years ≡ waited g t years
  waited-alike zero t h = refl
  waited-alike (suc years) t h = omega (
    arith,
    most-alike years (suc t) (λ u from. h u (omega arith)),
    waited-alike years (suc t) (λ u from. h u (omega arith)),
  )

  pub carried-alike : (years t : ℕ) (i : Ends)
      → AlikeFrom (suc t) → EnclosesCarried b n f s t years i → EnclosesCarried b n g s t years i
  carried-alike years t i h worth =
      rw (← backward-alike years (suc t) h, ← most-alike years (suc t) h, ← waited-alike years (suc t) h) worth

-- where nothing is paid at a time, all that is paid is carried back to it
pub set-is-carried : (b : Basis) (n : ℕ) (s : List Bool) (f : ℕ → ℕ) (years t : ℕ) (i : Ends)
    → f t ≡ 0 → EnclosesSet b n f s t (suc years) i → EnclosesCarried b n f s t years i
set-is-carried b n s f years t i none worth = record {
  encloses = λ some. let e = nothing-more (f t) (joint_survivors t (in_set s) b.lives * accumulated b t)
      (b.q t * backward b s f (suc t) years) none in rw e at (worth.encloses some);
  narrow = worth.narrow;
  within = let e = none-more (f t) (paid_in_all f (suc t) years) none in rw e at worth.within;
}
  where
    nothing-more : (p k m : ℕ) → p ≡ 0 → p * k + m ≡ m
    nothing-more p k m e = rw e (omega arith)

    none-more : (p m : ℕ) → p ≡ 0 → p + m ≡ m
    none-more p m e = rw e (omega arith)

-- later payments do not depend on the time of the valuation
same-later : (kind : Kind) (defer T U u : ℕ) → T < u → U < u → may_pay kind defer T u ≡ may_pay kind defer U u
same-later Insurance defer T U u h k = refl
same-later Due defer T U u h k = both-le (nat_le defer u) T U u (omega arith) (omega arith)
  where
    both-le : (d : Bool) (T U u : ℕ) → T ≤ u → U ≤ u → (d && nat_le T u) ≡ (d && nat_le U u)
    both-le true T U u h k = grind (arith, nat_tests)
    both-le false T U u h k = refl
same-later Immediate defer T U u h k = both-lt (nat_lt defer u) T U u h k
  where
    both-lt : (d : Bool) (T U u : ℕ) → T < u → U < u → (d && nat_lt T u) ≡ (d && nat_lt U u)
    both-lt true T U u h k = grind (arith, nat_tests)
    both-lt false T U u h k = refl

-- nor does that of an annuity-due at the time of the next valuation
due-next : (defer t u : ℕ) → suc t ≤ u → may_pay Due defer (suc t) u ≡ may_pay Due defer t u
due-next defer t u h = both (nat_le defer u) t u h
  where
    both : (d : Bool) (t u : ℕ) → suc t ≤ u → (d && nat_le (suc t) u) ≡ (d && nat_le t u)
    both true t u h = grind (arith, nat_tests)
    both false t u h = refl

-- an annuity-immediate does not pay at the time of its valuation
never-at-once : (defer t : ℕ) → may_pay Immediate defer t t ≡ false
never-at-once defer t = neither (nat_lt defer t) t
  where
    neither : (d : Bool) (t : ℕ) → (d && nat_lt t t) ≡ false
    neither true t = grind (arith, nat_tests)
    neither false t = refl

may-not : (may : Bool) (n : ℕ) → may ≡ false → cond may n 0 ≡ 0
may-not may n e = rw e refl

pub none-at-once : (pay : PlainPay) → pay.kind ≡ Immediate → (t : ℕ) → paid_at pay t t ≡ 0
none-at-once pay is t =
    may-not (may_pay pay.kind pay.defer t t) _ (ap (λ k. may_pay k pay.defer t t) is ∙ never-at-once pay.defer t)

paid-same : (pay : PlainPay) (T U u : ℕ)
    → may_pay pay.kind pay.defer T u ≡ may_pay pay.kind pay.defer U u → paid_at pay T u ≡ paid_at pay U u
paid-same pay T U u e = ap (λ may. cond may (payment pay (years_passed pay.kind pay.defer u)) 0) e

module _ (b : Basis) (pay : PlainPay) (n t : ℕ) (lists : Lists) where
  -- the values of an annuity-due at the next time, as its values at t of what is paid after t
  pub due-carried : pay.kind ≡ Due
      → (years : ℕ) → HoldCarried b pay (suc t) n t years lists → HoldCarried b pay t n t years lists
  due-carried is years held mask below named =
      let same : (u : ℕ) → suc t ≤ u → paid_at pay (suc t) u ≡ paid_at pay t u =
      λ u h. paid-same pay (suc t) t u (ap (λ k. may_pay k pay.defer (suc t) u) is
      ∙ due-next pay.defer t u h ∙ sym (ap (λ k. may_pay k pay.defer t u) is)) in (
        carried-alike b n
            (bits n mask) (gain pay (suc t) (bits n mask)) (gain pay t (bits n mask)) years t (entry lists.plus mask)
            (λ u h. ap (λ (p : ℕ). p * above_zero (form pay u (bits n mask))) (same u h)) (held mask below named).0,
        carried-alike b n
            (bits n mask) (loss pay (suc t) (bits n mask)) (loss pay t (bits n mask)) years t (entry lists.minus mask)
            (λ u h. ap (λ (p : ℕ). p * below_zero (form pay u (bits n mask))) (same u h)) (held mask below named).1,
      )

  -- the values of an annuity-immediate at a time, where it does not pay, as its values of what is paid after it for an
  -- earlier valuation
  pub immediate-carried : pay.kind ≡ Immediate → (T years more : ℕ)
      → T ≤ t → more ≡ suc years → HoldValues b pay t n t more lists → HoldCarried b pay T n t years lists
  immediate-carried is T years more before e held mask below named =
      let none = none-at-once pay is t in
      let same : (u : ℕ) → suc t ≤ u → paid_at pay t u ≡ paid_at pay T u =
      λ u h. paid-same pay t T u (same-later pay.kind pay.defer t T u (omega arith) (omega arith)) in (
        carried-alike b n (bits n mask) (gain pay t (bits n mask)) (gain pay T (bits n mask)) years t
            (entry lists.plus mask) (λ u h. ap (λ (p : ℕ). p * above_zero (form pay u (bits n mask))) (same u h))
            (set-is-carried b n (bits n mask) (gain pay t (bits n mask)) years t (entry lists.plus mask) (times-none
            (paid_at pay t t) (above_zero (form pay t (bits n mask))) none) (rw e at (held mask below named).0)),
        carried-alike b n (bits n mask) (loss pay t (bits n mask)) (loss pay T (bits n mask)) years t
            (entry lists.minus mask) (λ u h. ap (λ (p : ℕ). p * below_zero (form pay u (bits n mask))) (same u h))
            (set-is-carried b n (bits n mask) (loss pay t (bits n mask)) years t (entry lists.minus mask) (times-none
            (paid_at pay t t) (below_zero (form pay t (bits n mask))) none) (rw e at (held mask below named).1)),
      )
    where
      times-none : (p k : ℕ) → p ≡ 0 → p * k ≡ 0
      times-none p k e = rw e (omega arith)

-- the horizon is the last time of an annuity-immediate, and the one after the last time of an annuity-due
pub due-last : (kind : Kind) (years : ℕ) → kind ≡ Due → 1 ≤ years → suc (last_time_of_form kind years) ≡ years
due-last kind years is some = ap (λ k. suc (last_time_of_form k years)) is ∙ omega arith

pub immediate-last : (kind : Kind) (years : ℕ) → kind ≡ Immediate → last_time_of_form kind years ≡ years
immediate-last kind years is = ap (λ k. last_time_of_form k years) is ∙ omega arith

-- at the horizon nothing is left to be paid, and an annuity-immediate does not pay at the time of its valuation
at-end : (kind : Kind) → kind ≢ Insurance → (years t : ℕ) → 1 ≤ years → years ≤ t
    → 1 ≤ suc (last_time_of_form kind years) - t → (suc (last_time_of_form kind years) - t ≡ 1) × (kind ≡ Immediate)
at-end Insurance annual years t some after more = absurd (annual refl)
at-end Due annual years t some after more = absurd (omega arith)
at-end Immediate annual years t some after more = (omega arith, refl)

nothing-held : (b : Basis) (pay : PlainPay) (n t years : ℕ) (lists : Lists)
    → (1 ≤ years → (years ≡ 1) × (paid_at pay t t ≡ 0)) → HoldNothing pay n lists → HoldValues b pay t n t years lists
nothing-held b pay n t zero lists one none = none-held b pay t n t 0 lists refl none
nothing-held b pay n t (suc years) lists one none =
    let is = one (omega arith) in
    none-paid b pay t n t 0 (suc years) lists is.0 is.1 (none-carried b pay t n t 0 lists refl none)

pub nothing-left : (b : Basis) (pay : PlainPay) (n t years : ℕ) (lists : Lists)
    → pay.kind ≢ Insurance → 1 ≤ years → years ≤ t → HoldNothing pay n lists
    → HoldValues b pay t n t (suc (last_time_of_form pay.kind years) - t) lists
nothing-left b pay n t years lists annual some after none =
    nothing-held b pay n t (suc (last_time_of_form pay.kind years) - t) lists
    (λ more. let e = at-end pay.kind annual years t some after more in (e.0, none-at-once pay e.1 t)) none
