use Rattle.halo_annuity.proofs.Carrying.{nothing-carries, product-carries}
use Rattle.halo_annuity.proofs.carry.carried.Goals as goal
use Rattle.std.proofs.Common.{arith}
use Rattle.std.proofs.lemmas.Int.{ints}

pub returns-then-hi-le0-clause-carries : goal.returns-then-hi-le0-clause-carries
returns-then-hi-le0-clause-carries g c =
    nothing-carries c.args.later c.args.chance c.exact.result c.requires.from c.hi.ensures.order
    (omega (arith, ints, c.hi.ensures.value, c.hi.ensures.order, c.requires.from, c.if-hi-le0.true))
    c.exact.ensures.lo c.exact.ensures.hi

pub returns-clause-carries : goal.returns-clause-carries
returns-clause-carries g c =
    let m = c.mul.ensures in
    product-carries c.args.later c.args.chance c.mul.result c.requires.from c.hi.ensures.order (λ e. absurd
    (omega (arith, ints, c.hi.ensures.value, e, c.if-hi-le0.false))) c.requires.chance m.encloses m.from
    m.bound m.width
