-- The discount factors and the payments of a valuation, one year more.
use Rattle.std.proofs.Common.{◌≡◌, ℕ, ◌+◌, ◌*◌, ◌-◌, ◌^◌, ◌≤◌, ℤ, pos, neg_ℤ, ◌+ℤ◌, arith, ap, subst, sym, ◌∙◌}
use Rattle.std.proofs.lemmas.Int.{ints}
use Rattle.halo_sums.specs.Masks.{has_bit}
use Rattle.halo_sums.specs.Sums.{int_sum_over, numbers_from}
use Rattle.halo_sums.proofs.IntSums.{int_sum_over-append}
use Rattle.halo_sums.proofs.Numbers.{numbers_from-add}
use Rattle.halo_num.specs.Ends.{Ends, IsWithin, fine}
use Rattle.halo_num.specs.Chance.{EnclosesChance}
use Rattle.halo_num.proofs.Enclosures.{encloses_add}
use Rattle.halo_interest.specs.Powers.{IsPower}
use Rattle.halo_interest.specs.Rates.{discount_denominator, discount_numerator}
use Rattle.halo_interest.proofs.Growth.{power_more, power_zero}
use Rattle.halo_status.specs.Pay.{PlainPay, pay_of}
use Rattle.halo_contract.specs.declared.ties.Ties.TheVariants.{Declared}
use Rattle.halo_model.specs.Basis.{Basis}
use Rattle.halo_model.specs.Enclosed.{of_one}
use Rattle.halo_model.specs.Segment.{first_time}
use Rattle.halo_along.specs.Along.{basis_of_tree_task}
use Rattle.halo_along.specs.Years.{EnclosesPayment, EnclosesYears, IsDiscount, present_value}
use Rattle.halo_along.specs.declared.tree_task.TreeTask.{TreeTask}

module _ {n : ℕ} (along : TreeTask n) where
  abbrev start : ℕ
  start = along.group.now.start

  abbrev numerators : ℕ → ℕ
  numerators = discount_numerator along.interest.now

  abbrev denominators : ℕ → ℕ
  denominators = discount_denominator along.interest.now

  -- at the start nothing is discounted
  pub discount-none : (t : ℕ) (i : Ends) → t ≡ start → i.lo ≡ pos fine → i.hi ≡ pos fine → IsDiscount along t i
  discount-none t i e low high =
      let none : t - start ≡ 0 = omega (arith, e) in
      subst (λ (years : ℕ). IsPower numerators denominators start years i) (sym none)
      (power_zero numerators denominators start i low high)

  -- and a year later it is so for that year more
  pub discount-more : (t : ℕ) (i year r : Ends) → start ≤ t → IsDiscount along t i
      → EnclosesChance (numerators t) (denominators t) 1 year
      → ((m k d e v w : ℕ) → EnclosesChance m d v i → EnclosesChance k e w year
      → EnclosesChance (m * k) (d * e) (v + w + 1) r)
      → IsDiscount along (t + 1) r
  discount-more t i year r from is of_year multiplied =
      let here : t ≡ start + (t - start) = omega arith in
      let years : (t - start) + 1 ≡ t + 1 - start = omega arith in
      subst (λ (k : ℕ). IsPower numerators denominators start k r) years
      (power_more numerators denominators start (t - start) r
      (multiplied _ _ _ _ (3 * (t - start)) 1 is
      (subst (λ (k : ℕ). EnclosesChance (numerators k) (denominators k) 1 year) here of_year)))

  -- in no years nothing is paid
  pub years-none : (t : ℕ) (i : Ends) → t ≡ start → i.lo ≡ pos 0 → i.hi ≡ pos 0 → EnclosesYears along (t - start) i
  unfolding EnclosesYears
  years-none t i e low high ties =
      let none : t - start ≡ 0 = omega (arith, e) in
      rw none (record {
        encloses = record { low = rw low (omega (arith, ints)); high = rw high (omega (arith, ints)) };
        narrow = record { near = omega (arith, ints, low, high) };
        within = record { low = omega (arith, ints, low); high = omega (arith, ints, high) };
      })

  -- and in a year more one payment more
  pub years-more : (t : ℕ) (sum payment r : Ends) → start ≤ t
      → EnclosesYears along (t - start) sum → EnclosesPayment along (t + first_time along.pay.now.kind) payment
      → r.lo ≡ sum.lo +ℤ payment.lo → r.hi ≡ sum.hi +ℤ payment.hi → EnclosesYears along (t + 1 - start) r
  unfolding EnclosesYears EnclosesPayment
  years-more t sum payment r from of_sum of_payment low high ties =
      let years : t + 1 - start ≡ (t - start) + 1 = omega arith in
      let s = of_sum ties in
      let p = of_payment ties in
      rw years (record {
        encloses = rw one-more (encloses_add sum payment r _ _ _ low high s.encloses p.encloses);
        narrow = record { near = rw (low, high) (omega (arith, ints, s.narrow.near, p.narrow.near)) };
        within = record {
          low = rw low (omega (arith, ints, s.within.low, p.within.low));
          high = rw high (omega (arith, ints, s.within.high, p.within.high));
        };
      })
    where
      b : Basis
      b = basis_of_tree_task along ties

      pay : PlainPay
      pay = of_one (pay_of along.pay.now)

      value : ℕ → ℤ
      value = present_value b pay start (has_bit along.group.now.alive)

      first : ℕ
      first = start + first_time pay.kind

      here : first + (t - start) ≡ t + first_time pay.kind
      here = omega arith

      one-more : int_sum_over (numbers_from first ((t - start) + 1)) value
          ≡ int_sum_over (numbers_from first (t - start)) value +ℤ value (t + first_time pay.kind)
      one-more =
          ap (λ ts. int_sum_over ts value) (numbers_from-add (t - start) 1 first)
          ∙ int_sum_over-append (numbers_from first (t - start)) (numbers_from (first + (t - start)) 1) value
          ∙ ap (λ (u : ℕ). int_sum_over (numbers_from first (t - start)) value +ℤ (value u +ℤ pos 0)) here
          ∙ omega (arith, ints)

  -- these are small numbers
  pub years-small : (years : ℕ) (i : Ends) → years ≤ 200 → EnclosesYears along years i
      → IsWithin i (neg_ℤ (pos (10 ^ 36))) (pos (10 ^ 36))
  unfolding EnclosesYears
  years-small years i few is =
      let w = (is Declared).within in
      record { low = omega (arith, ints, w.low); high = omega (arith, ints, w.high) }

  pub payment-small : (t : ℕ) (i : Ends) → EnclosesPayment along t i
      → IsWithin i (neg_ℤ (pos (10 ^ 36))) (pos (10 ^ 36))
  unfolding EnclosesPayment
  payment-small t i is =
      let w = (is Declared).within in
      record { low = omega (arith, ints, w.low); high = omega (arith, ints, w.high) }
