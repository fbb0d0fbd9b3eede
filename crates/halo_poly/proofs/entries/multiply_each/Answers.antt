-- Each place is written once, with the product of what stood there before.
use Rattle.std.proofs.Common.{◌≡◌, ℕ, arith, refl, rules, List, ℤ, pos, ◌*ℤ◌, SFits, w64, to_z, of_z}
use Rattle.std.proofs.lemmas.List.{get_or_past}
use Rattle.std.proofs.lemmas.Int.{to_z-of_z}
use Rattle.halo_poly.specs.Poly.{coefficient_at}
use Rattle.halo_poly.proofs.Steps.{all_passed, none_passed, one_passed}
use Rattle.halo_poly.proofs.entries.multiply_each.Goals as goal

computed : (old now others : List ℤ) (k : ℕ) → SFits w64 (coefficient_at now k) → SFits w64 (coefficient_at others k)
    → coefficient_at now k ≡ coefficient_at old k
    → to_z w64 (of_z w64 (coefficient_at now k)) *ℤ to_z w64 (of_z w64 (coefficient_at others k))
    ≡ coefficient_at old k *ℤ coefficient_at others k
computed old now others k f g e =
    rw (to_z-of_z w64 (coefficient_at now k) f, to_z-of_z w64 (coefficient_at others k) g, e) refl

pub loop-k-init : goal.loop-k-init
loop-k-init c = none_passed _ c.args.values.now

pub overflow_mul-values : goal.overflow_mul-values
overflow_mul-values c =
    let f : SFits w64 (coefficient_at c.loop-k.values c.loop-k.k) = search rules in
    let g : SFits w64 (coefficient_at c.args.others.now c.loop-k.k) = search rules in
    rw (computed c.args.values.now c.loop-k.values c.args.others.now c.loop-k.k f g
    (c.loop-k.invariant.rest c.loop-k.k (omega arith)))
    (c.requires.fits c.loop-k.k (omega arith))

pub loop-k-preserved : goal.loop-k-preserved
loop-k-preserved c =
    let f : SFits w64 (coefficient_at c.loop-k.values c.loop-k.k) = search rules in
    let g : SFits w64 (coefficient_at c.args.others.now c.loop-k.k) = search rules in
    let product =
    computed c.args.values.now c.loop-k.values c.args.others.now c.loop-k.k f g
    (c.loop-k.invariant.rest c.loop-k.k (omega arith)) in
    one_passed _ c.args.values.now c.loop-k.values c.loop-k.k _ c.loop-k.invariant (omega arith)
    (rw product (to_z-of_z w64 _ (c.requires.fits c.loop-k.k (omega arith))))

pub returns-clause-products : goal.returns-clause-products
returns-clause-products c =
    all_passed _ c.args.values.now c.loop-k.values c.loop-k.k c.loop-k.invariant (omega arith)
    (λ k h.
    rw (
      get_or_past c.args.values.now k (pos 0) h,
      get_or_past c.args.others.now k (pos 0) (omega (arith, c.requires.length)),
    )
    refl)
