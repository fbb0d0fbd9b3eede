-- What an insurance pays for the years of a valuation, one year more.
use Rattle.std.proofs.Common.{◌≡◌, ℕ, ◌+◌, ◌*◌, ◌-◌, ◌^◌, ◌≤◌, arith, ap, ◌∙◌, ℤ, pos, neg_ℤ, ◌+ℤ◌}
use Rattle.std.proofs.lemmas.Int.{ints}
use Rattle.halo_sums.specs.Masks.{has_bit}
use Rattle.halo_sums.specs.Sums.{int_sum_over, numbers_from}
use Rattle.halo_sums.proofs.IntSums.{int_sum_over-append}
use Rattle.halo_sums.proofs.Numbers.{numbers_from-add}
use Rattle.halo_num.specs.Ends.{Ends, IsWithin}
use Rattle.halo_num.proofs.Enclosures.{encloses_add}
use Rattle.halo_status.specs.Pay.{pay_of}
use Rattle.halo_contract.specs.declared.ties.Ties.TheVariants.{Declared}
use Rattle.halo_model.specs.ByYears.{year_part}
use Rattle.halo_model.specs.Enclosed.{of_one}
use Rattle.halo_along.specs.Along.{basis_of_tree_task}
use Rattle.halo_along.specs.Insured.{EnclosesInsuredYear, EnclosesInsuredYears}
use Rattle.halo_along.specs.declared.tree_task.TreeTask.{TreeTask}

-- the products of a year more: one for its discount factor, those of a value of existence, and one for its discount
pub insured-products : (old before now next after square t start : ℕ) → start ≤ t
    → before ≤ old + (t - start + 1) * (2 * square + 3) → now ≡ before + 1 → next ≤ now + 2 * square + 1
    → after ≡ next + 1 → after ≤ old + (t + 1 - start + 1) * (2 * square + 3)
insured-products old before now next after square t start from so_far discount existing at_end =
    let years : t + 1 - start ≡ (t - start) + 1 = omega arith in
    rw years (omega (arith, so_far, discount, existing, at_end))

module _ {n : ℕ} (along : TreeTask n) where
  abbrev start : ℕ
  start = along.group.now.start

  -- in no years nothing is paid
  pub insured-none : (years : ℕ) (i : Ends) → years ≡ 0 → i.lo ≡ pos 0 → i.hi ≡ pos 0
      → EnclosesInsuredYears along years i
  unfolding EnclosesInsuredYears
  insured-none years i none low high ties =
      rw none (record {
        encloses = record { low = rw low (omega (arith, ints)); high = rw high (omega (arith, ints)) };
        narrow = record { near = omega (arith, ints, low, high) };
        near = record { low = omega (arith, ints, low); high = omega (arith, ints, high) };
      })

  -- and in a year more what that year pays
  pub insured-more : (t : ℕ) (sum year r : Ends) → start ≤ t
      → EnclosesInsuredYears along (t - start) sum → EnclosesInsuredYear along t year
      → r.lo ≡ sum.lo +ℤ year.lo → r.hi ≡ sum.hi +ℤ year.hi → EnclosesInsuredYears along (t + 1 - start) r
  unfolding EnclosesInsuredYears EnclosesInsuredYear
  insured-more t sum year r from of_sum of_year low high ties =
      let years : t + 1 - start ≡ (t - start) + 1 = omega arith in
      let s = of_sum ties in
      let y = of_year ties in
      rw years (record {
        encloses = rw one-more (encloses_add sum year r _ _ _ low high s.encloses y.encloses);
        narrow = record { near = rw (low, high) (omega (arith, ints, s.narrow.near, y.narrow.near)) };
        near = record {
          low = rw low (omega (arith, ints, s.near.low, y.near.low));
          high = rw high (omega (arith, ints, s.near.high, y.near.high));
        };
      })
    where
      value : ℕ → ℤ
      value = year_part (basis_of_tree_task along ties) (of_one (pay_of along.pay.now)) start
          (has_bit along.group.now.alive)

      here : start + (t - start) ≡ t
      here = omega arith

      one-more : int_sum_over (numbers_from start ((t - start) + 1)) value
          ≡ int_sum_over (numbers_from start (t - start)) value +ℤ value t
      one-more =
          ap (λ ts. int_sum_over ts value) (numbers_from-add (t - start) 1 start)
          ∙ int_sum_over-append (numbers_from start (t - start)) (numbers_from (start + (t - start)) 1) value
          ∙ ap (λ (u : ℕ). int_sum_over (numbers_from start (t - start)) value +ℤ (value u +ℤ pos 0)) here
          ∙ omega (arith, ints)

  -- these are small numbers
  pub insured-small : (years : ℕ) (i : Ends) → years ≤ 200 → EnclosesInsuredYears along years i
      → IsWithin i (neg_ℤ (pos (10 ^ 36))) (pos (10 ^ 36))
  unfolding EnclosesInsuredYears
  insured-small years i few is =
      let w = (is Declared).near in
      record { low = omega (arith, ints, w.low); high = omega (arith, ints, w.high) }

  pub insured-year-small : (t : ℕ) (i : Ends) → EnclosesInsuredYear along t i
      → IsWithin i (neg_ℤ (pos (10 ^ 36))) (pos (10 ^ 36))
  unfolding EnclosesInsuredYear
  insured-year-small t i is =
      let w = (is Declared).near in
      record { low = omega (arith, ints, w.low); high = omega (arith, ints, w.high) }
