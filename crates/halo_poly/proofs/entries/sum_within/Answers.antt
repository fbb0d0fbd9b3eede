-- One mask more is one term more, and the sum stays small enough.
use Rattle.std.proofs.Common.{◌≡◌, ℕ, ◌+◌, ◌*◌, ◌^◌, ◌≤◌, arith, refl, rules, ap, ◌∙◌, [], ◌∷◌, Bool, true, false, cond, ℤ, pos, ◌+ℤ◌, unsigned_abs, nat_eq, bit_and, w64, to_z, of_z}
use Rattle.std.proofs.lemmas.Int.{ints, to_z-of_z, fits_signed_from_abs}
use Rattle.halo_sums.specs.Sums.{int_sum_over, numbers_from}
use Rattle.halo_sums.proofs.Numbers.{numbers_from-add}
use Rattle.halo_sums.proofs.IntSums.{int_sum_over-append}
use Rattle.halo_poly.specs.Poly.{IsSmall, coefficient_at}
use Rattle.halo_poly.specs.Transform.{within}
use Rattle.halo_poly.proofs.Transforms.{abs-add}
use Rattle.halo_poly.proofs.entries.sum_within.Goals as goal

small_within : (b : Bool) (z : ℤ) → IsSmall z → IsSmall (cond b z (pos 0))
small_within true z h = h
small_within false z h = omega arith

one_more : (f : ℕ → ℤ) (mask : ℕ)
    → int_sum_over (numbers_from 0 (mask + 1)) f ≡ int_sum_over (numbers_from 0 mask) f +ℤ f mask
one_more f mask = let place : 0 + mask ≡ mask = omega arith in
    rw (numbers_from-add mask 1 0)
    (int_sum_over-append (numbers_from 0 mask) ((0 + mask) ∷ []) f
    ∙ ap (λ z. int_sum_over (numbers_from 0 mask) f +ℤ (z +ℤ pos 0)) (ap f place)
    ∙ omega (arith, ints))

bounded : (a b : ℤ) (k : ℕ) → unsigned_abs a ≤ k * 10 ^ 15 → IsSmall b → unsigned_abs (a +ℤ b) ≤ (k + 1) * 10 ^ 15
bounded a b k h small = omega (arith, abs-add a b)

pub overflow_add-sum : goal.overflow_add-sum
overflow_add-sum c =
    let term = c.within-sum.result in
    let e : to_z w64 (of_z w64 term) ≡ term = to_z-of_z w64 term (search rules) in
    let small : IsSmall term =
    rw c.within-sum.ensures
    (small_within (nat_eq (bit_and c.loop-mask.mask c.args.set) c.loop-mask.mask)
    (coefficient_at c.args.values.now c.loop-mask.mask) (c.requires.small c.loop-mask.mask)) in
    rw e (fits_signed_from_abs w64 _
    (omega (arith, bounded (to_z w64 c.loop-mask.sum-bits) term c.loop-mask.mask c.loop-mask.invariant.bound small)))

pub loop-mask-preserved : goal.loop-mask-preserved
loop-mask-preserved c =
    let term = c.within-sum.result in
    let e : to_z w64 (of_z w64 term) ≡ term = to_z-of_z w64 term (search rules) in
    let small : IsSmall term =
    rw c.within-sum.ensures
    (small_within (nat_eq (bit_and c.loop-mask.mask c.args.set) c.loop-mask.mask)
    (coefficient_at c.args.values.now c.loop-mask.mask) (c.requires.small c.loop-mask.mask)) in
    let bound = bounded (to_z w64 c.loop-mask.sum-bits) term c.loop-mask.mask c.loop-mask.invariant.bound small in
    let whole : to_z w64 (of_z w64 (to_z w64 c.loop-mask.sum-bits +ℤ term)) ≡ to_z w64 c.loop-mask.sum-bits +ℤ term =
    to_z-of_z w64 _ (fits_signed_from_abs w64 _ (omega (arith, bound))) in
    record {
      sum =
          rw (
            e,
            whole,
            one_more (within c.args.values.now c.args.set) c.loop-mask.mask,
            c.within-sum.ensures,
            c.loop-mask.invariant.sum,
          )
          refl;
      bound = rw (e, whole) bound;
    }
