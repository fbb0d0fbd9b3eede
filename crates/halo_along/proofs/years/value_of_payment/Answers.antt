use Rattle.halo_along.proofs.Payments.{high-sized, low-sized, nothing-paid, payment-encloses}
use Rattle.halo_along.proofs.years.value_of_payment.Goals as goal

pub scale-requires-clause-lo_in : goal.scale-requires-clause-lo_in
scale-requires-clause-lo_in g c =
    let one = c.value_of_one in
    low-sized c.args.along.now c.args.t one.result one.ensures.one one.ensures.order c.from.result c.paid_at-paid.result
    c.from.ensures c.paid_at-paid.ensures.small

pub scale-requires-clause-hi_in : goal.scale-requires-clause-hi_in
scale-requires-clause-hi_in g c =
    let one = c.value_of_one in
    high-sized c.args.along.now c.args.t one.result one.ensures.one one.ensures.order c.from.result
    c.paid_at-paid.result c.from.ensures c.paid_at-paid.ensures.small

pub returns-clause-payment : goal.returns-clause-payment
returns-clause-payment g c =
    let one = c.value_of_one in
    let scaled = c.scale.ensures in
    payment-encloses c.args.along.now c.args.t one.result one.ensures.one one.ensures.order c.from.result
    c.paid_at-paid.result c.from.ensures c.paid_at-paid.ensures.small c.scale.result c.requires.to
    (rw c.start.ensures.value at c.paid_at-paid.ensures.value) scaled.lo scaled.hi scaled.encloses scaled.narrow

pub returns-then-paid-eq0-clause-payment : goal.returns-then-paid-eq0-clause-payment
returns-then-paid-eq0-clause-payment g c =
    nothing-paid c.args.along.now c.args.t c.paid_at-paid.result c.exact.result
    (rw c.start.ensures.value at c.paid_at-paid.ensures.value) c.if-paid-eq0.true c.exact.ensures.lo c.exact.ensures.hi
