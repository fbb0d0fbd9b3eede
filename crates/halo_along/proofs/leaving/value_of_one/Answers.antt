use Rattle.std.proofs.Common.{arith, add-one}
use Rattle.std.proofs.lemmas.Int.{ints}
use Rattle.halo_along.proofs.OneLeaving.{one-leaving}
use Rattle.halo_along.proofs.leaving.value_of_one.Goals as goal

pub mul-requires-clause-self_in : goal.mul-requires-clause-self_in
mul-requires-clause-self_in g c = omega (arith, ints, c.requires.discount.within.high)

pub returns-clause-one : goal.returns-clause-one
returns-clause-one g c =
    let is = c.requires in
    one-leaving c.args.along.now is.along c.start-start.ensures.group c.fractions-fractions.ensures.interest
    is.insurance c.args.life is.life is.falls is.alive c.args.year is.deferred is.from is.before
    c.looked_at-lives.result c.looked_at-lives.ensures.chances c.looked_at-lives.ensures.lives c.args.discount
    c.pay_loss-loss.result c.leave-leave.result c.mul-falling.result c.mul.result (rw add-one at is.discount)
    c.pay_loss-loss.ensures.loss (c.leave-leave.ensures.along_tree is.alive) c.mul-falling.ensures.chance
    c.mul.ensures.chance
