use Rattle.std.proofs.Common.{arith}
use Rattle.std.proofs.lemmas.Int.{ints}
use Rattle.halo_insure.proofs.Payments.{nothing-back}
use Rattle.halo_insure.proofs.one_year.value_back.Goals as goal

pub returns-then-is_nothing-clause-back : goal.returns-then-is_nothing-clause-back
returns-then-is_nothing-clause-back g c =
    nothing-back c.args.later c.args.chances.now.leaving c.args.chances.now.survival c.args.discount c.exact.result
    c.args.due c.requires.later.low c.hi.ensures.order
    (omega (arith, ints, c.hi.ensures.value, c.if-hi-le0.true))
    (c.is_nothing.ensures.0 c.if-is_nothing.true)
    c.exact.ensures.lo c.exact.ensures.hi
