-- What an insurance pays for a year is enclosed by the values of its existence at the two ends.
use Rattle.std.proofs.Common.{◌≡◌, ℕ, suc, ◌+◌, ◌*◌, ◌-◌, ◌^◌, ◌<◌, ◌≤◌, arith, refl, ap, ℤ, pos, neg_ℤ, ◌-ℤ◌, ◌*ℤ◌, ◌≤ℤ◌, Bool}
use Rattle.std.specs.Int.{int_max, int_min}
use Rattle.std.specs.Prelude.{nat_le}
use Rattle.std.proofs.lemmas.Int.{ints, clamps}
use Rattle.std.proofs.lemmas.Nat.{mul-le}
use Rattle.halo_sums.specs.Masks.{has_bit}
use Rattle.halo_sums.proofs.Integers.{mul_le_pos, neg_mul}
use Rattle.halo_num.specs.Ends.{Ends, HasWidth, IsSized, IsWithin, fine}
use Rattle.halo_num.specs.Enclosure.{Encloses}
use Rattle.halo_num.proofs.Enclosures.{encloses_reduced}
use Rattle.halo_interest.specs.Rates.{IsInterest, discount_denominator, discount_numerator}
use Rattle.halo_interest.proofs.InForce.{in_force_is}
use Rattle.halo_status.specs.Pay.{PlainPay, pay_of}
use Rattle.halo_contract.specs.declared.ties.Ties.{Ties}
use Rattle.halo_contract.specs.declared.ties.Ties.TheVariants.{Declared}
use Rattle.halo_model.specs.Basis.{Basis, discounted}
use Rattle.halo_model.specs.ByYears.{year_part}
use Rattle.halo_model.specs.Counts.{greatest_factor}
use Rattle.halo_model.specs.Enclosed.{of_one}
use Rattle.halo_model.specs.Part.{existing_weight}
use Rattle.halo_model.specs.Payment.{factor, payment}
use Rattle.halo_compile.proofs.Sums.{wider}
use Rattle.halo_along.specs.Along.{IsTreeTask, basis_of_tree_task}
use Rattle.halo_along.specs.Insured.{insured_in, insured_width}
use Rattle.halo_along.specs.Years.{EnclosesOnePaid, present_value_of_one, present_whole, width_of_one}
use Rattle.halo_along.specs.declared.tree_task.TreeTask.{TreeTask}
use Rattle.halo_along.proofs.Counting.{cond-within, factor-within}
use Rattle.halo_along.proofs.Insured.{value-at-end, year-pays-fall}

-- a multiple of what is no further from 0 than so much
multiple-sized : (z : ℤ) (n k : ℕ) → IsSized z n → IsSized (z *ℤ pos k) (n * k)
multiple-sized z n k is = record {
  low = omega (arith, ints, mul_le_pos (neg_ℤ (pos n)) z k is.low, neg_mul (pos n) (pos k));
  high = omega (arith, ints, mul_le_pos z (pos n) k is.high);
}

-- times a payment it is small
pub multiple-modest : (z k : ℤ) (paid : ℕ) → k ≡ pos paid → paid ≤ 201 → IsSized z fine → IsSized (z *ℤ k) (10 ^ 36)
multiple-modest z k paid e few is = rw e (
    let m = multiple-sized z fine paid is in
    record { low = omega (arith, ints, m.low, few); high = omega (arith, ints, m.high, few) })

-- and an interval is then no further from 0 than so many ones
pub multiple-near : (a r : Ends) (k : ℤ) (paid : ℕ) → k ≡ pos paid → paid ≤ 201 → IsSized a.lo fine → IsSized a.hi fine
    → r.lo ≡ int_min (a.lo *ℤ k) (a.hi *ℤ k) → r.hi ≡ int_max (a.lo *ℤ k) (a.hi *ℤ k)
    → IsWithin r (neg_ℤ (pos (201 * fine))) (pos (201 * fine))
multiple-near a r k paid e few low high lo hi =
    let m = multiple-sized a.lo fine paid low in
    let n = multiple-sized a.hi fine paid high in
    let is_lo = rw e at lo in
    let is_hi = rw e at hi in
    record {
      low = omega (arith, ints, clamps, is_lo, m.low, n.low, few);
      high = omega (arith, ints, clamps, is_hi, m.high, n.high, few);
    }

-- a payment is as large as it is
pub sized : (paid : ℕ) → IsSized (pos paid) paid
sized paid = record { low = omega (arith, ints); high = omega (arith, ints) }

-- an insurance of 1 pays at most its greatest factor
pub insured-within : (pay : PlainPay) → pay.amount ≡ 1 → (k years : ℕ) → k ≤ years
    → insured_in pay k ≤ greatest_factor pay.vary years
insured-within pay one k years h =
    cond-within (nat_le pay.defer k) _ _
    (let e : payment pay (k - pay.defer) ≡ 1 * factor pay.vary (k - pay.defer) =
    ap (λ (a : ℕ). a * factor pay.vary (k - pay.defer)) one in
    omega (arith, e, factor-within pay.vary (k - pay.defer) years (omega arith)))

module _ {n : ℕ} (along : TreeTask n) where
  -- a value of existence is at most 1
  pub existing-within : (t : ℕ) (i : Ends) → EnclosesOnePaid along t i → IsWithin i (pos 0) (pos fine)
  unfolding EnclosesOnePaid
  existing-within t i e =
      record { low = (e Declared).within.low; high = omega (arith, ints, (e Declared).within.high) }

  -- the two values of existence of a year differ by no more than 1
  pub fall-near : (k : ℕ) (at_end next fallen : Ends) → EnclosesOnePaid along (suc k) next
      → IsWithin at_end (pos 0) (pos fine)
      → fallen.lo ≡ at_end.lo -ℤ next.hi → fallen.hi ≡ at_end.hi -ℤ next.lo → fallen.lo ≤ℤ fallen.hi
      → IsSized fallen.lo fine × IsSized fallen.hi fine
  fall-near k at_end next fallen e within low high order =
      let there = existing-within (suc k) next e in (
        record {
          low = omega (arith, ints, there.high, within.low, low);
          high = omega (arith, ints, there.low, within.high, high, order);
        },
        record {
          low = omega (arith, ints, there.high, within.low, low, order);
          high = omega (arith, ints, there.low, within.high, high);
        },
      )

  module _ (is : IsTreeTask along) (k : ℕ) (from : along.group.now.start ≤ k) (before : k < along.horizon) where
    -- the widths of the two values, of the discount and of the factor
    pub year-narrow : (r : Ends) (paid : ℕ) → paid ≡ insured_in (of_one (pay_of along.pay.now)) k
        → HasWidth r ((width_of_one along + 1 + 1 + width_of_one along) * paid)
        → HasWidth r (insured_width along)
    year-narrow r paid e h =
        wider r _ _ (mul-le (width_of_one along + 1 + 1 + width_of_one along) paid
        (2 * width_of_one along + 2)
        (greatest_factor along.pay.now.vary along.horizon) (omega arith)
        (omega (arith, e, insured-within (of_one (pay_of along.pay.now)) refl k along.horizon (omega arith)))) h

    module _ (interest : IsInterest along.interest.now) (existing next factor at_end fallen r : Ends) (paid : ℕ)
        (is_paid : paid ≡ insured_in (of_one (pay_of along.pay.now)) k)
        (product : (n m : ℤ) (d e : ℕ)
        → Encloses existing n d → Encloses factor m e → Encloses at_end (n *ℤ m) (d * e))
        (discount : Encloses factor (pos (discount_numerator along.interest.now k))
        (discount_denominator along.interest.now k))
        (difference : (n m : ℤ) (d : ℕ) → Encloses at_end n d → Encloses next m d → Encloses fallen (n -ℤ m) d)
        (multiple : (n : ℤ) (d : ℕ) → Encloses fallen n d → Encloses r (n *ℤ pos paid) d) where
      -- the value at the start of the year, discounted to its end, less the value at the end, times the payment
      pub year-encloses : EnclosesOnePaid along k existing → EnclosesOnePaid along (suc k) next
          → (ties : Ties) → Encloses r
          (year_part (basis_of_tree_task along ties) (of_one (pay_of along.pay.now)) along.group.now.start
          (has_bit along.group.now.alive) k)
          (present_whole (basis_of_tree_task along ties) along.group.now.start (has_bit along.group.now.alive))
      unfolding EnclosesOnePaid
      year-encloses now then ties =
          let turned = value-at-end b pay T S k from (omega (arith, before, is.horizon_in)) in
          let whole-year = product (present_value_of_one b pay T S k) (pos (b.q k)) whole (b.p k + b.q k)
          (now ties).encloses discount in
          let there : Encloses at_end value whole = encloses_reduced at_end value whole (b.p k + b.q k)
          (omega (arith, (in_force_is along.interest.now interest k).q_from)) (rw turned at whole-year) in
          rw (year-pays-fall b pay T S k from, ← is_paid)
          (multiple (value -ℤ present_value_of_one b pay T S (suc k)) whole
          (difference value (present_value_of_one b pay T S (suc k)) whole there (then ties).encloses))
        where
          b : Basis
          b = basis_of_tree_task along ties

          pay : PlainPay
          pay = of_one (pay_of along.pay.now)

          T : ℕ
          T = along.group.now.start

          S : ℕ → Bool
          S = has_bit along.group.now.alive

          whole : ℕ
          whole = present_whole b T S

          value : ℤ
          value = pos (discounted b T (suc k)) *ℤ existing_weight b pay T S k
