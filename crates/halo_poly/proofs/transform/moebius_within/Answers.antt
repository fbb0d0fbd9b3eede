-- The pass for a named life fits, and that for another would change nothing; after all there are the coefficients.
use Rattle.std.proofs.Common.{◌≡◌, suc, ◌+◌, arith, sym, ◌∙◌}
use Rattle.halo_sums.proofs.Within.{within-below}
use Rattle.halo_poly.specs.Poly.{coefficient_of}
use Rattle.halo_poly.proofs.PartPasses.{part_begins, part_fits, part_more, part_passes-all, part_same}
use Rattle.halo_poly.proofs.transform.moebius_within.Goals as goal
use Rattle.halo_poly.proofs.transform.moebius_within.Goals.{then-has_bit, else-has_bit}

pub loop-life-init : goal.loop-life-init
loop-life-init c = part_begins c.args.lives c.args.named c.args.values.now c.requires.full

pub take_within-requires-clause-fits : goal.take_within-requires-clause-fits
take_within-requires-clause-fits c = λ mask within.
    part_fits c.args.lives c.args.named c.loop-life.life (coefficient_of c.args.values.now) c.loop-life.values
    c.loop-life.invariant c.requires.small (omega arith) c.requires.few mask
    (omega (arith, within-below mask c.args.named within)) within

pub loop-life-preserved : goal.loop-life-preserved
loop-life-preserved c =
    let next : c.loop-life.life + 1 ≡ suc c.loop-life.life = omega arith in
    elim c.if-has_bit.branch [
      | then-has_bit w ↦ rw (next, w.values-is)
          (part_more c.args.lives c.args.named c.loop-life.life (coefficient_of c.args.values.now) c.loop-life.values
          c.loop-life.invariant w.take_within.new.values (omega arith) w.take_within.ensures.length
          w.take_within.ensures.differences)
      | else-has_bit w ↦ rw (next, w.values-is)
          (part_same c.args.lives c.args.named c.loop-life.life (coefficient_of c.args.values.now) c.loop-life.values
          c.loop-life.invariant (sym c.has_bit.ensures ∙ w.if-has_bit.false))
    ]

pub returns-clause-coefficients : goal.returns-clause-coefficients
returns-clause-coefficients c = λ s l.
    let all : c.loop-life.life ≡ c.args.lives = omega arith in
    c.loop-life.invariant.each s l
    ∙ part_passes-all c.args.named c.loop-life.life (coefficient_of c.args.values.now) s (omega arith)
