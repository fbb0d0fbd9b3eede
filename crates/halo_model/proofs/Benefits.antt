-- From the intervals of the pays to those of the total, the premium and the reserves, and to their lines.
use Rattle.std.proofs.Common.{◌≡◌, ℕ, ◌+◌, ◌*◌, ◌++◌, arith, mul_comm, ap, ◌∙◌, Bool, List, [], ◌∷◌, ℤ, pos, ◌+ℤ◌, ◌*ℤ◌, ◌≤ℤ◌}
use Rattle.std.proofs.lemmas.Int.{ints}
use Rattle.halo_sums.specs.Sums.{sum_over}
use Rattle.halo_sums.proofs.Integers.{add_mul, mul_le_pos, mul-pos-pos}
use Rattle.halo_sums.proofs.Sums.{sum_over-append}
use Rattle.halo_num.specs.Ends.{Ends, HasWidth, IsWithin, fine}
use Rattle.halo_num.specs.Enclosure.{Encloses}
use Rattle.halo_num.proofs.Enclosures.{encloses_add}
use Rattle.halo_status.specs.Pay.{PlainPay}
use Rattle.halo_model.specs.Basis.{Basis}
use Rattle.halo_model.specs.Counts.{measures_of, most_worth, width_count}
use Rattle.halo_model.specs.Enclosed.{of_one}
use Rattle.halo_model.specs.EnclosureLaws.{NoBenefits, OneBenefitMore, PremiumOfBenefits, ReserveWithoutPremium, ReserveWithPremium}
use Rattle.halo_model.specs.Premium.{premium_denominator, premium_numerator, reserve_denominator, reserve_numerator}
use Rattle.halo_model.specs.Value.{denominator, numerator, total_numerator}
use Rattle.halo_model.specs.Widths.{benefit_most, benefit_width, pay_most, pay_width}
use Rattle.halo_model.proofs.Amounts.{values-scale}

pub no-benefits : NoBenefits
unfolding total_numerator
no-benefits b T S i lo hi = record {
  encloses = record { low = rw lo (omega (arith, ints)); high = rw hi (omega (arith, ints)) };
  narrow = record { near = omega (arith, ints, lo, hi) };
  within = record { low = omega (arith, ints, lo); high = omega (arith, ints, hi) };
}

-- a sum over some and one more
sum-more : {X : Type 0} → (xs : List X) (x : X) (f : X → ℕ) → sum_over (xs ++ x ∷ []) f ≡ sum_over xs f + f x
sum-more xs x f = sum_over-append xs (x ∷ []) f ∙ omega arith

total-more : (b : Basis) (pays : List PlainPay) (pay : PlainPay) (T : ℕ) (S : ℕ → Bool)
    → total_numerator b (pays ++ pay ∷ []) T S ≡ total_numerator b pays T S + pay.amount * numerator b (of_one pay) T S
unfolding total_numerator
total-more b pays pay T S = sum-more pays pay (λ p. numerator b p T S)
    ∙ ap (λ n. total_numerator b pays T S + n) (values-scale b pay T S)

-- an end times a natural
end-times : (a n : ℤ) (d u k : ℕ) → (a *ℤ pos d) ≤ℤ (n *ℤ pos u) → (a *ℤ pos k *ℤ pos d) ≤ℤ (n *ℤ pos k *ℤ pos u)
end-times a n d u k p =
    let s = mul_le_pos (a *ℤ pos d) (n *ℤ pos u) k p in
    let i = mul_comm d k in
    let j = mul_comm u k in
    rw (mul-pos-pos a k d, mul-pos-pos n k u, ← i, ← j, ← mul-pos-pos a d k, ← mul-pos-pos n u k) s

-- ends times a natural enclose that many times the fraction
abbrev multiple : Ends → ℕ → Ends
multiple i k = record { lo = i.lo *ℤ pos k; hi = i.hi *ℤ pos k }

multiple-encloses : (i : Ends) (n : ℤ) (d k : ℕ) → Encloses i n d → Encloses (multiple i k) (n *ℤ pos k) d
multiple-encloses i n d k p = record { low = end-times i.lo n d fine k p.low; high = end-times n i.hi fine d k p.high }

multiple-narrow : (i : Ends) (w k : ℕ) → HasWidth i w → HasWidth (multiple i k) (k * w)
multiple-narrow i w k p =
    let m : (i.hi *ℤ pos k) ≤ℤ (i.lo *ℤ pos k +ℤ pos w *ℤ pos k) =
    rw (add_mul i.lo (pos w) (pos k)) at (mul_le_pos i.hi (i.lo +ℤ pos w) k p.near) in
    record { near = omega (arith, ints, m) }

multiple-within : (i : Ends) (m k : ℕ)
    → IsWithin i (pos 0) (pos (m * fine)) → IsWithin (multiple i k) (pos 0) (pos (k * m * fine))
multiple-within i m k p =
    let low : (pos 0 *ℤ pos k) ≤ℤ (i.lo *ℤ pos k) = mul_le_pos (pos 0) i.lo k p.low in
    let high : (i.hi *ℤ pos k) ≤ℤ (pos (m * fine) *ℤ pos k) = mul_le_pos i.hi (pos (m * fine)) k p.high in
    record { low = omega (arith, ints, low); high = omega (arith, ints, high) }

pub one-benefit-more : OneBenefitMore
one-benefit-more b pays pay T S sum value more so_far one lo hi =
    let part = multiple value pay.amount in
    let encloses : Encloses part (pos (numerator b (of_one pay) T S) *ℤ pos pay.amount) (denominator b T S) =
    multiple-encloses value _ _ pay.amount one.encloses in
    let narrow : HasWidth part (pay_width b pay) =
    multiple-narrow value (width_count (measures_of b pay)) pay.amount one.narrow in
    let within : IsWithin part (pos 0) (pos (pay_most b pay * fine)) =
    multiple-within value (most_worth pay.kind (measures_of b pay)) pay.amount one.within in
    let worth : pos (total_numerator b pays T S)
    +ℤ pos (numerator b (of_one pay) T S) *ℤ pos pay.amount ≡ pos (total_numerator b (pays ++ pay ∷ []) T S)
    = omega (arith, ints, total-more b pays pay T S) in
    let width : benefit_width b (pays ++ pay ∷ []) ≡ benefit_width b pays + pay_width b pay =
    sum-more pays pay (pay_width b) in
    let most : benefit_most b (pays ++ pay ∷ []) ≡ benefit_most b pays + pay_most b pay =
    sum-more pays pay (pay_most b) in
    record {
      encloses = rw worth at (encloses_add sum part more _ _ _ lo hi so_far.encloses encloses);
      narrow = rw width (record { near = omega (arith, ints, lo, hi, so_far.narrow.near, narrow.near) });
      within = rw most (record {
        low = omega (arith, ints, lo, so_far.within.low, within.low);
        high = omega (arith, ints, hi, so_far.within.high, within.high);
      });
    }

pub premium-of-benefits : PremiumOfBenefits
unfolding premium_numerator premium_denominator
premium-of-benefits b pays status benefits due i all one quotient = record {
  encloses = quotient.encloses _ _ _ all.encloses one.encloses;
  narrow = record {
    near = let q = (quotient.narrow _ _ _ all.within.high all.narrow one.narrow).near in
        omega (arith, ints, q);
  };
  within = record { low = quotient.from; high = quotient.bound _ all.within.high };
}

pub reserve-without-premium : ReserveWithoutPremium
unfolding reserve_numerator reserve_denominator
reserve-without-premium b pays T S later all = record { encloses = all.encloses; narrow = all.narrow }

pub reserve-with-premium : ReserveWithPremium
unfolding reserve_numerator reserve_denominator premium_numerator premium_denominator most_worth
reserve-with-premium b pays status T S later premium due i in_time all level one less = record {
  encloses = less.encloses _ _ _ _ _ all.encloses level.encloses one.encloses;
  narrow = record {
    near = omega (
      arith,
      ints,
      (less.narrow _ _ _ _ (b.last_time + 1) level.within.high years all.narrow level.narrow one.narrow).near,
    );
  };
}
  where
    years : due.hi ≤ℤ pos ((b.last_time + 1) * fine)
    years = omega (arith, ints, one.within.high, in_time)
