-- A value of at most 2^16 has small coefficients.
use Rattle.std.proofs.Common.{arith, ◌∙◌}
use Rattle.halo_poly.proofs.Bounded.{numbers_small, numbers_told}
use Rattle.halo_poly.proofs.transform.moebius_of_counts.Goals as goal

pub moebius-requires-clause-small : goal.moebius-requires-clause-small
moebius-requires-clause-small c = λ s l.
    rw (numbers_told c.args.lives c.args.row.now c.args.counts.now c.write_each.new.values
    (omega (arith, c.requires.full, c.requires.length)) c.write_each.ensures.numbers s l)
    (numbers_small c.args.lives c.args.row.now c.args.counts.now c.requires.small c.requires.few s l)

pub returns-clause-coefficients : goal.returns-clause-coefficients
returns-clause-coefficients c = λ s l.
    c.moebius.ensures.coefficients s l
    ∙ numbers_told c.args.lives c.args.row.now c.args.counts.now c.write_each.new.values
    (omega (arith, c.requires.full, c.requires.length)) c.write_each.ensures.numbers s l

pub returns-clause-small : goal.returns-clause-small
returns-clause-small c = λ s l.
    rw (
      c.moebius.ensures.coefficients s l,
      numbers_told c.args.lives c.args.row.now c.args.counts.now c.write_each.new.values
          (omega (arith, c.requires.full, c.requires.length)) c.write_each.ensures.numbers s l,
    )
    (numbers_small c.args.lives c.args.row.now c.args.counts.now c.requires.small c.requires.few s l)
