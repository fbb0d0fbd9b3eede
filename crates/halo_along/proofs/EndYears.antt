-- What an insurance pays on the ends of terms: in one year, and in one year more.
use Rattle.std.proofs.Common.{◌≡◌, ℕ, suc, ◌+◌, ◌-◌, ◌^◌, ◌≤◌, Bool, false, length, pos, neg_ℤ, ◌+ℤ◌, ◌*ℤ◌, arith, refl, ap, ◌∙◌}
use Rattle.std.proofs.Math.IntN.{*ℤ-zero}
use Rattle.std.proofs.lemmas.Int.{ints}
use Rattle.halo_sums.specs.Masks.{has_bit}
use Rattle.halo_num.specs.Ends.{Ends, IsWithin}
use Rattle.halo_status.specs.Pay.{PlainPay, pay_of}
use Rattle.halo_contract.specs.declared.ties.Ties.TheVariants.{Declared}
use Rattle.halo_model.specs.Basis.{Basis, discounted}
use Rattle.halo_model.specs.Enclosed.{of_one}
use Rattle.halo_model.specs.SetValue.{can_fall_on_term}
use Rattle.halo_model.proofs.NoFall.{no-chance-on-end}
use Rattle.halo_along.specs.Along.{basis_of_tree_task}
use Rattle.halo_along.specs.Contingent.{EnclosesEnd, EnclosesEnds, value_of_one_on_end, value_on_end}
use Rattle.halo_along.specs.Insured.{insured_in}
use Rattle.halo_along.specs.Leavings.{declared_rank}
use Rattle.halo_along.specs.declared.tree_task.TreeTask.{TreeTask}
use Rattle.halo_along.proofs.PresentSums.{both-encloses, nothing-encloses, one-year-more, present-small}

module _ {n : ℕ} (along : TreeTask n) where
  abbrev b : Basis
  b = basis_of_tree_task along Declared

  abbrev pay : PlainPay
  pay = of_one (pay_of along.pay.now)

  abbrev start : ℕ
  start = along.group.now.start

  abbrev living : ℕ → Bool
  living = has_bit along.group.now.alive

  -- where nothing is paid the value is 0
  pub end-unpaid : (k paid : ℕ) (i : Ends) → paid ≡ insured_in pay k → paid ≡ 0
      → i.lo ≡ pos 0 → i.hi ≡ pos 0 → EnclosesEnd along k i
  unfolding EnclosesEnd
  end-unpaid k paid i is none low high =
      nothing-encloses _ _ _ _ _ _ i (rw (← is, none) (*ℤ-zero (value_of_one_on_end b pay start living k))) low high

  -- and so it is where no payment can fall on the end
  pub end-silent : (k : ℕ) (i : Ends) → can_fall_on_term (pay_of along.pay.now) (suc k) ≡ false
      → i.lo ≡ pos 0 → i.hi ≡ pos 0 → EnclosesEnd along k i
  unfolding EnclosesEnd
  end-silent k i silent low high =
      nothing-encloses _ _ _ _ _ _ i
      (ap (λ z. (pos (discounted b start (suc k)) *ℤ z) *ℤ pos (insured_in pay k))
      (no-chance-on-end pay (declared_rank (length b.lives)) start living b.lives (suc k) silent)
      ∙ none (discounted b start (suc k)) (insured_in pay k)) low high
    where
      no-times : (p : ℕ) → pos 0 *ℤ pos p ≡ pos 0
      no-times p = omega (arith, ints)

      none : (d p : ℕ) → (pos d *ℤ pos 0) *ℤ pos p ≡ pos 0
      none d p = ap (λ z. z *ℤ pos p) (*ℤ-zero (pos d)) ∙ no-times p

  -- in no years nothing is paid
  pub ends-none : (t : ℕ) (i : Ends) → t ≡ start → i.lo ≡ pos 0 → i.hi ≡ pos 0 → EnclosesEnds along (t - start) i
  unfolding EnclosesEnds
  ends-none t i e low high =
      let none : t - start ≡ 0 = omega (arith, e) in
      rw none (nothing-encloses _ _ _ _ _ _ i refl low high)

  -- and in a year more what that year pays
  pub ends-more : (t : ℕ) (sum year r : Ends) → start ≤ t
      → EnclosesEnds along (t - start) sum → EnclosesEnd along t year
      → r.lo ≡ sum.lo +ℤ year.lo → r.hi ≡ sum.hi +ℤ year.hi → EnclosesEnds along (t + 1 - start) r
  unfolding EnclosesEnds EnclosesEnd
  ends-more t sum year r from of_sum of_year low high =
      let years : t + 1 - start ≡ (t - start) + 1 = omega arith in
      both-encloses _ _ _ _ _ _ _ _ _ _ _ _ sum year r (one-year-more start t (value_on_end b pay start living) from)
      (rw years (omega arith)) (rw years (omega arith)) of_sum of_year low high

  -- these are small numbers
  pub ends-small : (years : ℕ) (i : Ends) → years ≤ 200 → EnclosesEnds along years i
      → IsWithin i (neg_ℤ (pos (10 ^ 36))) (pos (10 ^ 36))
  unfolding EnclosesEnds
  ends-small years i few is = present-small _ _ _ _ _ _ i (omega (arith, few)) is

  pub end-small : (k : ℕ) (i : Ends) → EnclosesEnd along k i → IsWithin i (neg_ℤ (pos (10 ^ 36))) (pos (10 ^ 36))
  unfolding EnclosesEnd
  end-small k i is = present-small _ _ _ _ _ _ i (omega arith) is
