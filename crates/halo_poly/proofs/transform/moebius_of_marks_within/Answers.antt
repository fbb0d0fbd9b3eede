-- The marks of the parts have small coefficients.
use Rattle.std.proofs.Common.{bit_and, false, get_or, arith, ◌∙◌}
use Rattle.halo_sums.specs.SetMasks.{mask_of}
use Rattle.halo_poly.proofs.PartPasses.{part_marks, part_small}
use Rattle.halo_poly.proofs.Transforms.{test_small}
use Rattle.halo_poly.proofs.transform.moebius_of_marks_within.Goals as goal

pub moebius_within-requires-clause-small : goal.moebius_within-requires-clause-small
moebius_within-requires-clause-small c = λ s l.
    part_small c.args.values.now c.mark_within.new.values c.args.marked.now c.args.named c.requires.none
    c.mark_within.ensures.marks s (omega (arith, c.requires.few))

pub returns-clause-coefficients : goal.returns-clause-coefficients
returns-clause-coefficients c = λ s l.
    c.moebius_within.ensures.coefficients s l
    ∙ part_marks c.args.values.now c.mark_within.new.values c.args.marked.now c.args.named c.requires.none
    c.mark_within.ensures.marks s

pub returns-clause-small : goal.returns-clause-small
returns-clause-small c = λ s l.
    rw (
      c.moebius_within.ensures.coefficients s l,
      part_marks c.args.values.now c.mark_within.new.values c.args.marked.now c.args.named c.requires.none
          c.mark_within.ensures.marks s,
    )
    (test_small (λ u. get_or c.args.marked.now (bit_and (mask_of u) c.args.named) false) s
    (omega (arith, c.requires.few)))
