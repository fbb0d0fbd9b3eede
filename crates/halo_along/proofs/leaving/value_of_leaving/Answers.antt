use Rattle.std.proofs.Common.{arith, refl}
use Rattle.halo_status.specs.Pay.{pay_of}
use Rattle.halo_model.specs.Counts.{greatest_factor}
use Rattle.halo_model.specs.Enclosed.{of_one}
use Rattle.halo_along.specs.Leavings.{EnclosesLeaving, EnclosesOneLeaving}
use Rattle.halo_along.proofs.InsuredYear.{insured-within}
use Rattle.halo_along.proofs.LeavingYears.{leaving-unpaid}
use Rattle.halo_along.proofs.Payments.{high-has-room, low-has-room, present-times}
use Rattle.halo_along.proofs.leaving.value_of_leaving.Goals as goal

pub returns-then-paid-eq0-clause-leaving : goal.returns-then-paid-eq0-clause-leaving
returns-then-paid-eq0-clause-leaving g c =
    leaving-unpaid c.args.along.now c.args.life c.args.year c.insured_in-paid.result c.exact.result
    c.insured_in-paid.ensures.value c.if-paid-eq0.true c.exact.ensures.lo c.exact.ensures.hi

pub scale-requires-clause-lo_in : goal.scale-requires-clause-lo_in
unfolding EnclosesOneLeaving
scale-requires-clause-lo_in g c =
    low-has-room _ _ _ _ _ c.value_of_one-one.result c.value_of_one-one.ensures.one c.lo-lowest.ensures.order
    c.from.result c.insured_in-paid.result c.from.ensures c.insured_in-paid.ensures.small

pub scale-requires-clause-hi_in : goal.scale-requires-clause-hi_in
unfolding EnclosesOneLeaving
scale-requires-clause-hi_in g c =
    high-has-room _ _ _ _ _ c.value_of_one-one.result c.value_of_one-one.ensures.one c.lo-lowest.ensures.order
    c.from.result c.insured_in-paid.result c.from.ensures c.insured_in-paid.ensures.small

pub returns-clause-leaving : goal.returns-clause-leaving
unfolding EnclosesLeaving EnclosesOneLeaving
returns-clause-leaving g c =
    let along = c.args.along.now in
    let pay = of_one (pay_of along.pay.now) in
    let paid = c.insured_in-paid in
    let scaled = c.scale.ensures in
    rw (← paid.ensures.value) (present-times _ _ _ _ _ c.value_of_one-one.result c.value_of_one-one.ensures.one
    c.lo-lowest.ensures.order c.from.result paid.result c.from.ensures paid.ensures.small c.scale.result
    (greatest_factor along.pay.now.vary along.horizon)
    (omega (
      arith,
      paid.ensures.value,
      insured-within pay refl c.args.year along.horizon (omega (
        arith,
        c.requires.before,
      )),
    ))
    scaled.lo scaled.hi scaled.encloses scaled.narrow)
