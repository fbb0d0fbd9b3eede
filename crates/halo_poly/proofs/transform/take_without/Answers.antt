-- What is taken stands at a set without the life, where the pass has changed nothing.
use Rattle.std.proofs.Common.{arith, rules, SFits, w64}
use Rattle.std.proofs.lemmas.Int.{to_z-of_z}
use Rattle.halo_poly.specs.Poly.{coefficient_at}
use Rattle.halo_poly.proofs.Steps.{difference_computed, none_passed, nothing_taken, one_passed}
use Rattle.halo_poly.proofs.transform.take_without.Goals as goal

pub overflow_sub-values : goal.overflow_sub-values
overflow_sub-values c =
    let f : SFits w64 (coefficient_at c.loop-mask.values c.loop-mask.mask) = search rules in
    let g : SFits w64 c.without.result = search rules in
    rw (difference_computed _ c.args.values.now c.loop-mask.values c.loop-mask.mask c.args.life c.without.result f g
    c.without.ensures c.loop-mask.invariant (nothing_taken c.args.values.now c.args.life))
    (c.requires.fits c.loop-mask.mask (omega arith))

pub loop-mask-init : goal.loop-mask-init
loop-mask-init c = none_passed _ c.args.values.now

pub loop-mask-preserved : goal.loop-mask-preserved
loop-mask-preserved c =
    let f : SFits w64 (coefficient_at c.loop-mask.values c.loop-mask.mask) = search rules in
    let g : SFits w64 c.without.result = search rules in
    let difference =
    difference_computed _ c.args.values.now c.loop-mask.values c.loop-mask.mask c.args.life c.without.result f g
    c.without.ensures c.loop-mask.invariant (nothing_taken c.args.values.now c.args.life) in
    let difference_fits = c.requires.fits c.loop-mask.mask (omega arith) in
    one_passed _ c.args.values.now c.loop-mask.values c.loop-mask.mask _ c.loop-mask.invariant (omega arith)
    (rw difference (to_z-of_z w64 _ difference_fits))
