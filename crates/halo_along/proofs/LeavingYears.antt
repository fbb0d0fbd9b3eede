-- What an insurance pays on the leaving of a life: in one year, and in one year more.
use Rattle.std.proofs.Common.{◌≡◌, ◌≢◌, ℕ, ◌+◌, ◌*◌, ◌-◌, ◌^◌, ◌≤◌, Bool, true, false, nat_le, pos, neg_ℤ, ◌+ℤ◌, arith, refl, ◌∙◌}
use Rattle.std.proofs.Math.IntN.{*ℤ-zero}
use Rattle.std.proofs.lemmas.Bool.Decides.{nat_tests}
use Rattle.halo_sums.specs.Masks.{has_bit}
use Rattle.halo_num.specs.Ends.{Ends, IsWithin}
use Rattle.halo_status.specs.Pay.{PlainPay, pay_of}
use Rattle.halo_contract.specs.declared.ties.Ties.TheVariants.{Declared}
use Rattle.halo_model.specs.Enclosed.{of_one}
use Rattle.halo_along.specs.Along.{basis_of_tree_task}
use Rattle.halo_along.specs.Insured.{insured_in}
use Rattle.halo_along.specs.Leavings.{EnclosesLeaving, EnclosesLeavings, value_of_one_on_leaving, value_on_leaving}
use Rattle.halo_along.specs.declared.tree_task.TreeTask.{TreeTask}
use Rattle.halo_along.proofs.PresentSums.{both-encloses, nothing-encloses, one-year-more, present-small}

-- where an insurance pays it is not deferred
pub paid-deferred : (pay : PlainPay) (k paid : ℕ) → paid ≡ insured_in pay k → paid ≢ 0 → pay.defer ≤ k
paid-deferred pay k paid is some = each (nat_le pay.defer k) refl
  where
    each : (may : Bool) → nat_le pay.defer k ≡ may → pay.defer ≤ k
    each true e = grind (arith, nat_tests)
    each false e = absurd (some (is ∙ rw e refl))

-- the products of a year more: one for its discount factor, and those of its value
pub falling-products : (old before now new square t start : ℕ) → start ≤ t
    → before ≤ old + (t - start) * (4 * square + 3) → now ≡ before + 1 → new ≤ now + 4 * square + 2
    → new ≤ old + (t + 1 - start) * (4 * square + 3)
falling-products old before now new square t start from so_far one more_of_year =
    let years : t + 1 - start ≡ (t - start) + 1 = omega arith in
    rw years (omega (arith, so_far, one, more_of_year))

module _ {n : ℕ} (along : TreeTask n) (a : ℕ) where
  abbrev start : ℕ
  start = along.group.now.start

  -- where nothing is paid the value is 0
  pub leaving-unpaid : (k paid : ℕ) (i : Ends) → paid ≡ insured_in (of_one (pay_of along.pay.now)) k → paid ≡ 0
      → i.lo ≡ pos 0 → i.hi ≡ pos 0 → EnclosesLeaving along a k i
  unfolding EnclosesLeaving
  leaving-unpaid k paid i is none low high =
      let value = value_of_one_on_leaving (basis_of_tree_task along Declared) (of_one (pay_of along.pay.now)) start
      (has_bit along.group.now.alive) a k in
      nothing-encloses _ _ _ _ _ _ i (rw (← is, none) (*ℤ-zero value)) low high

  -- in no years nothing is paid
  pub leavings-none : (t : ℕ) (i : Ends) → t ≡ start → i.lo ≡ pos 0 → i.hi ≡ pos 0
      → EnclosesLeavings along a (t - start) i
  unfolding EnclosesLeavings
  leavings-none t i e low high =
      let none : t - start ≡ 0 = omega (arith, e) in
      rw none (nothing-encloses _ _ _ _ _ _ i refl low high)

  -- and in a year more what that year pays
  pub leavings-more : (t : ℕ) (sum year r : Ends) → start ≤ t
      → EnclosesLeavings along a (t - start) sum → EnclosesLeaving along a t year
      → r.lo ≡ sum.lo +ℤ year.lo → r.hi ≡ sum.hi +ℤ year.hi → EnclosesLeavings along a (t + 1 - start) r
  unfolding EnclosesLeavings EnclosesLeaving
  leavings-more t sum year r from of_sum of_year low high =
      let years : t + 1 - start ≡ (t - start) + 1 = omega arith in
      both-encloses _ _ _ _ _ _ _ _ _ _ _ _ sum year r
      (one-year-more start t
      (value_on_leaving (basis_of_tree_task along Declared) (of_one (pay_of along.pay.now)) start
      (has_bit along.group.now.alive) a) from)
      (rw years (omega arith)) (rw years (omega arith)) of_sum of_year low high

  -- these are small numbers
  pub leavings-small : (years : ℕ) (i : Ends) → years ≤ 200 → EnclosesLeavings along a years i
      → IsWithin i (neg_ℤ (pos (10 ^ 36))) (pos (10 ^ 36))
  unfolding EnclosesLeavings
  leavings-small years i few is = present-small _ _ _ _ _ _ i (omega (arith, few)) is

  pub leaving-small : (k : ℕ) (i : Ends) → EnclosesLeaving along a k i
      → IsWithin i (neg_ℤ (pos (10 ^ 36))) (pos (10 ^ 36))
  unfolding EnclosesLeaving
  leaving-small k i is = present-small _ _ _ _ _ _ i (omega arith) is
