use Rattle.std.proofs.Common.{arith, add-one}
use Rattle.std.proofs.lemmas.Int.{ints}
use Rattle.halo_along.proofs.OneEnd.{one-end}
use Rattle.halo_along.proofs.ending.value_of_one.Goals as goal

pub mul-requires-clause-self_in : goal.mul-requires-clause-self_in
mul-requires-clause-self_in g c = omega (arith, ints, c.requires.discount.within.high)

pub returns-clause-one : goal.returns-clause-one
returns-clause-one g c =
    let is = c.requires in
    one-end c.args.along.now is.along c.start-start.ensures.group c.fractions-fractions.ensures.interest is.insurance
    c.args.year (rw add-one at is.falls) is.deferred is.from is.before c.survivals-lives.result c.args.discount
    c.end_loss-loss.result c.mul.result (rw add-one at c.survivals-lives.ensures.survivals)
    (rw add-one at is.discount) (rw add-one at c.end_loss-loss.ensures.loss) c.mul.ensures.chance
