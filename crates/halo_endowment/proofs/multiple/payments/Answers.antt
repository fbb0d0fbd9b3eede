use Rattle.std.proofs.Common.{◌≡◌, rules, arith, pos, to_z, of_z, to_z-of_z, w64}
use Rattle.std.proofs.lemmas.Int.{ints}
use Rattle.halo_endowment.proofs.Multiples.{multiple-bound, multiple-encloses, multiple-narrow, sized}
use Rattle.halo_endowment.proofs.multiple.payments.Goals as goal

pub returns-clause-bound : goal.returns-clause-bound
returns-clause-bound c =
    let k : to_z w64 (of_z w64 c.from.result) ≡ pos c.args.count = search (rules, to_z-of_z) in
    multiple-bound c.scale.result c.args.chance c.args.count
    (rw k at c.scale.ensures.hi) c.lo-lowest.ensures.order c.requires.chance.high

pub returns-clause-narrow : goal.returns-clause-narrow
returns-clause-narrow c = λ w h.
    let k : to_z w64 (of_z w64 c.from.result) ≡ pos c.args.count = search (rules, to_z-of_z) in
    multiple-narrow c.scale.result w c.args.count (c.scale.ensures.narrow w c.args.count h (rw k (sized c.args.count)))

pub returns-clause-encloses : goal.returns-clause-encloses
returns-clause-encloses c = λ n d e.
    let k : to_z w64 (of_z w64 c.from.result) ≡ pos c.args.count = search (rules, to_z-of_z) in
    multiple-encloses c.scale.result n c.args.count d (rw k at (c.scale.ensures.encloses (pos n) d e))

pub returns-clause-small : goal.returns-clause-small
returns-clause-small c = omega (arith, ints, returns-clause-bound c, c.ranges.count.fits)
