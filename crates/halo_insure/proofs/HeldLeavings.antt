-- What is due on the leaving of one life for all sets of the named lives of a task, year by year.
use Rattle.std.proofs.Common.{◌≡◌, ℕ, suc, ◌+◌, ◌*◌, ◌-◌, ◌^◌, ◌<◌, ◌≤◌, arith, refl, ap, length, Bool, true, false, cond, ◌&&◌, nat_le, ℤ, pos, mul-le-mul_right}
use Rattle.halo_sums.specs.Masks.{bits, has_bit}
use Rattle.halo_sums.specs.Sets.{in_set, size_of}
use Rattle.halo_sums.specs.Sums.{numbers_from, product_over}
use Rattle.halo_sums.specs.Within.{is_within}
use Rattle.halo_sums.proofs.SetMasks.{length-bits}
use Rattle.halo_num.specs.Ends.{Ends, IsSized, IsWithin}
use Rattle.halo_status.specs.Pay.{PlainPay}
use Rattle.halo_contract.specs.declared.ties.Ties.TheVariants.{Declared}
use Rattle.halo_model.specs.Backward.{above_zero, below_zero}
use Rattle.halo_model.specs.Basis.{Basis, accumulated, taken}
use Rattle.halo_model.specs.Chance.{asked}
use Rattle.halo_model.specs.Horizon.{horizon}
use Rattle.halo_model.specs.Life.{leavers_by}
use Rattle.halo_model.specs.Outcome.{joint_survivors}
use Rattle.halo_model.specs.SetValue.{can_fall_on_life, leaving_of}
use Rattle.halo_model.proofs.Discounts.{accumulated-from}
use Rattle.halo_poly.specs.Poly.{coefficient_at}
use Rattle.halo_life.specs.Lists.{Lists, entry, nothing}
use Rattle.halo_life.specs.PlainGroup.{IsGroup}
use Rattle.halo_life.proofs.OneSet.{size-with}
use Rattle.halo_life.specs.Total.{AreModestAt}
use Rattle.halo_compile.proofs.Coefficients.{above-sized, below-sized}
use Rattle.halo_compile.specs.NamedSets.{AreNamed}
use Rattle.halo_compile.specs.OfTask.{pay_of_task}
use Rattle.halo_compile.specs.ValidTask.{IsTask}
use Rattle.halo_compile.specs.declared.task.Task.{Task}
use Rattle.halo_insure.specs.declared.due.Due.{Due}
use Rattle.halo_insure.specs.declared.sets.Year.{Year}
use Rattle.halo_insure.specs.Dues.{due_of}
use Rattle.halo_insure.specs.Leavings.{set_leavings, set_survivors}
use Rattle.halo_insure.specs.OfTask.{HoldDuesOn, insured_basis}
use Rattle.halo_endowment.specs.Payments.{AddsPayments}
use Rattle.halo_insure.specs.OneLeaving.{EnclosesFalling, EnclosesLeavings, HoldFallings, HoldLeavings, IsPaidOnLeaving, life_of_basis, there_when_leaving}
use Rattle.halo_insure.specs.OneSet.{most_due}
use Rattle.halo_insure.specs.Total.{EnclosesSet}
use Rattle.halo_insure.specs.YearOfTask.{IsYearOf}
use Rattle.halo_insure.specs.YearSets.{next_coefficient}
use Rattle.halo_insure.proofs.DueOfSet.{due-of-form}
use Rattle.halo_insure.proofs.EndOfTerm.{no-end}
use Rattle.halo_endowment.proofs.EndowmentsOfSets.{survivors-with}
use Rattle.halo_insure.proofs.Fallings.{leavings-with, leavings-without}
use Rattle.halo_insure.proofs.LeavingYears.{paid-later, same-later}
use Rattle.halo_insure.proofs.OneSet.{worthless}
use Rattle.halo_insure.proofs.Small.{most-small, small-within}
use Rattle.halo_insure.proofs.Tasks.{lives-of-task}

module _ {n m : ℕ} (task : Task n m) (is : IsTask task) (group : IsGroup n task.group.now) (a : ℕ)
    (in_order : task.group.now.ties ≡ Declared) where
  abbrev b : Basis
  b = insured_basis task

  abbrev pay : PlainPay
  pay = pay_of_task task

  abbrev T : ℕ
  T = task.group.now.start

  abbrev due : (ℤ → ℕ) → ℕ → ℕ → Due
  due part mask = due_of part pay (leaving_of a) (horizon b.lives pay.body) (bits n mask)

  -- no end of a term counts
  no-end-due : (part : ℤ → ℕ) (mask k : ℕ) → (due part mask k).at_end ≡ 0
  no-end-due part mask k = none (nat_le pay.defer k) _
    where
      none : (deferred : Bool) (paid : ℕ) → cond (deferred && false) paid 0 ≡ 0
      none true paid = refl
      none false paid = refl

  -- before the first year nothing is due
  pub held-none : (t : ℕ) → t ≡ T → (lists : Lists)
      → ((mask : ℕ) → AreNamed pay.body mask → (entry lists.plus mask ≡ nothing) × (entry lists.minus mask ≡ nothing))
      → HoldLeavings task a t lists
  held-none t start lists empty mask below named on =
      let none : t - T ≡ 0 = omega (arith, start) in
      let is_empty = empty mask named in
      rw none (
        of-nothing above_zero (entry lists.plus mask) is_empty.0,
        of-nothing below_zero (entry lists.minus mask) is_empty.1,
      )
    where
      of-nothing : (part : ℤ → ℕ) (i : Ends) → i ≡ nothing → EnclosesLeavings part b pay a (bits n mask) T 0 i
      of-nothing part i e =
          worthless b (set_leavings b pay (leaving_of a) (bits n mask)) (set_survivors b (bits n mask))
          (due part mask) (4 * size_of (bits n mask)) T 0 i refl (rw e refl) (rw e refl)

  module _ (k : ℕ) (from : T ≤ k) (before : k < task.horizon) (year : Year m) (of_year : IsYearOf task k false year)
    where
      due-is : (part : ℤ → ℕ) (mask : ℕ) → mask < 2 ^ n
          → year.pays.payment * part (coefficient_at year.here.now mask) ≡ (due part mask k).on_leaving
      due-is part mask below = ap (λ d. d.on_leaving)
          (due-of-form part pay refl (leaving_of a) (horizon b.lives pay.body)
          (bits n mask) k year.pays.payment year.pays.ends (coefficient_at year.here.now mask)
          (next_coefficient year mask)
          of_year.payment of_year.counts (of_year.here mask below) (rw (← is.horizon_is) (of_year.next mask below)))

      later : suc (k - T) ≡ k + 1 - T
      later = omega (arith, from)

      -- a year that pays nothing
      pub held-same : year.pays.payment ≡ 0 → (lists : Lists)
          → HoldLeavings task a k lists → HoldLeavings task a (k + 1) lists
      held-same unpaid lists held mask below named on =
          let now = held mask below named on in
          rw (← later) (same above_zero _ now.0, same below_zero _ now.1)
        where
          same : (part : ℤ → ℕ) (i : Ends) → EnclosesLeavings part b pay a (bits n mask) T (k - T) i
              → EnclosesLeavings part b pay a (bits n mask) T (suc (k - T)) i
          same part i now =
              same-later b (set_leavings b pay (leaving_of a) (bits n mask)) (set_survivors b (bits n mask))
              (due part mask) (4 * size_of (bits n mask)) T k from (no-end-due part mask k) i
              (rw (← due-is part mask below, unpaid) (omega arith)) now

      -- a year's payments
      module _ (falls : can_fall_on_life pay a ≡ true) (mask : ℕ) (below : mask < 2 ^ n) (on : has_bit mask a ≡ true)
        where
          abbrev others : ℕ
          others = mask - 2 ^ a

          gap : suc k - T ≡ suc (k - T)
          gap = omega (arith, from)

          one-order : length (taken b) ≡ 1
          one-order = rw in_order refl

          whole : set_survivors b (bits n mask) T * accumulated b T
              ≡ product_over (numbers_from T (suc k - T)) (λ j. b.p j + b.q j)
              * (life_of_basis b a).survivors T * joint_survivors T (in_set (bits n others)) b.lives
              * accumulated b (suc k)
          whole =
              rw (
                accumulated-from b T (suc k) (omega (arith, from)) (omega (arith, before, is.horizon_in)),
                one-order,
                survivors-with b n T T (lives-of-task task group) mask a below on T,
              ) (omega arith)

          weight : product_over (numbers_from T (suc (k - T))) b.q
              * set_leavings b pay (leaving_of a) (bits n mask) k * accumulated b (suc k)
              ≡ product_over (numbers_from T (suc k - T)) b.q * leavers_by (asked pay.causes) (life_of_basis b a) k
              * there_when_leaving b n a k (in_set (bits n others)) * accumulated b (suc k)
          weight =
              rw (gap, leavings-with b pay n a in_order (lives-of-task task group) mask below on falls k) (omega arith)

          few : 3 * (suc k - T) + 2 + 2 * size_of (bits n others) ≤ suc (k - T) * (4 * size_of (bits n mask) + 3)
          few =
              let some : 1 * (4 * size_of (bits n mask)) ≤ suc (k - T) * (4 * size_of (bits n mask)) =
              mul-le-mul_right (4 * size_of (bits n mask)) (omega arith) in
              omega (arith, gap, some, size-with n mask a below on)

          set-later : (part : ℤ → ℕ) (chance now r : Ends)
              → EnclosesFalling b (asked pay.causes) n T a k others chance
              → AddsPayments (year.pays.payment * part (coefficient_at year.here.now mask)) chance now r
              → EnclosesLeavings part b pay a (bits n mask) T (k - T) now
              → EnclosesLeavings part b pay a (bits n mask) T (suc (k - T)) r
          set-later part chance now r falling paid held =
              paid-later b (set_leavings b pay (leaving_of a) (bits n mask)) (set_survivors b (bits n mask))
              (due part mask) (4 * size_of (bits n mask)) T k from (no-end-due part mask k) chance now r _ _ _
              (accumulated b (suc k)) falling (rw (due-is part mask below) at paid) weight whole few held

      pub held-later : can_fall_on_life pay a ≡ true → (named : ℕ)
          → ((mask : ℕ) → AreNamed pay.body mask → is_within mask named ≡ true)
          → (old chances new : Lists) → HoldLeavings task a k old → HoldFallings task a k chances
          → ((mask : ℕ) → has_bit mask a ≡ true
          → (entry chances.plus mask ≡ entry old.plus mask) × (entry chances.minus mask ≡ entry old.minus mask))
          → ((mask : ℕ) → is_within mask named ≡ true → has_bit mask a ≡ true → IsPaidOnLeaving year a mask chances new)
          → HoldLeavings task a (k + 1) new
      held-later falls named inside old chances new held fallings same paid mask below are on =
          let now = held mask below are on in
          let rest = same mask on in
          let falling = fallings mask below are on in
          let more = paid mask (inside mask are) on in
          rw (← later) (
            set-later falls mask below on above_zero _ _ _ falling (rw rest.0 at more.plus) now.0,
            set-later falls mask below on below_zero _ _ _ falling (rw rest.1 at more.minus) now.1,
          )

  -- what is held are small numbers
  pub held-modest : (k : ℕ) → T ≤ k → k < task.horizon → (lists : Lists) → HoldLeavings task a k lists
      → (mask : ℕ) → mask < 2 ^ n → AreNamed pay.body mask → has_bit mask a ≡ true → AreModestAt mask lists
  held-modest k from before lists held mask below named on =
      let now = held mask below named on in
      (one above_zero above-sized _ now.0, one below_zero below-sized _ now.1)
    where
      one : (part : ℤ → ℕ) → ((z : ℤ) (n : ℕ) → IsSized z n → part z ≤ n) → (i : Ends)
          → EnclosesLeavings part b pay a (bits n mask) T (k - T) i → IsWithin i (pos 0) (pos (10 ^ 32))
      one part sized i now =
          let short : length (bits n mask) ≤ 12 = omega (arith, group.few, length-bits n mask) in
          small-within i (most_due (due part mask) T (k - T)) (k - T) (omega (arith, before, is.horizon_in))
          (most-small part sized pay refl is.valid.vary (leaving_of a) (horizon b.lives pay.body) (bits n mask) short
          (k - T) T (omega (arith, from, before, is.horizon_in))) now.from now.bound

  -- up to the horizon it is all that is due, where nothing is held for the sets without the life
  pub held-all : (t : ℕ) → t - T ≡ task.horizon - T → (old new : Lists) → HoldLeavings task a t old
      → ((mask : ℕ) → AreNamed pay.body mask → has_bit mask a ≡ true
      → (entry new.plus mask ≡ entry old.plus mask) × (entry new.minus mask ≡ entry old.minus mask))
      → ((mask : ℕ) → AreNamed pay.body mask → has_bit mask a ≡ false
      → (entry new.plus mask ≡ nothing) × (entry new.minus mask ≡ nothing))
      → HoldDuesOn task (leaving_of a) T new
  held-all t all old new held same empty mask below named = by-case (has_bit mask a) refl
    where
      years : t - T ≡ horizon b.lives pay.body - T
      years = rw (← is.horizon_is) all

      worth-nothing : has_bit mask a ≡ false → (part : ℤ → ℕ) (i : Ends) → i ≡ nothing
          → EnclosesSet part b pay (leaving_of a) (bits n mask) T i
      worth-nothing off part i e =
          worthless b (set_leavings b pay (leaving_of a) (bits n mask)) (set_survivors b (bits n mask)) (due part mask)
          (4 * size_of (bits n mask)) T (horizon b.lives pay.body - T) i
          (no-end b (set_leavings b pay (leaving_of a) (bits n mask)) (set_survivors b (bits n mask)) (due part mask)
          (leavings-without b pay n a in_order (lives-of-task task group) mask below off)
          (horizon b.lives pay.body - T) T (λ j from before. no-end-due part mask j)) (rw e refl) (rw e refl)

      by-case : (on : Bool) → has_bit mask a ≡ on
          → EnclosesSet above_zero b pay (leaving_of a) (bits n mask) T (entry new.plus mask)
          × EnclosesSet below_zero b pay (leaving_of a) (bits n mask) T (entry new.minus mask)
      by-case true on =
          let s = same mask named on in
          rw (s.0, s.1, ← years) (held mask below named on)
      by-case false off =
          let none = empty mask named off in
          (worth-nothing off above_zero _ none.0, worth-nothing off below_zero _ none.1)
