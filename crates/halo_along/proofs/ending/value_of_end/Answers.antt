use Rattle.std.proofs.Common.{◌≡◌, ◌+◌, add-one, arith, false, refl, sym, ◌∙◌}
use Rattle.halo_status.specs.Pay.{pay_of}
use Rattle.halo_model.specs.Counts.{greatest_factor}
use Rattle.halo_model.specs.Enclosed.{of_one}
use Rattle.halo_model.specs.SetValue.{can_fall_on_term}
use Rattle.halo_along.specs.Contingent.{EnclosesEnd, EnclosesOneEnd}
use Rattle.halo_along.proofs.InsuredYear.{insured-within}
use Rattle.halo_along.proofs.EndYears.{end-silent, end-unpaid}
use Rattle.halo_along.proofs.Payments.{high-has-room, low-has-room, present-times}
use Rattle.halo_along.proofs.ending.value_of_end.Goals as goal

pub returns-then-paid-eq0-clause-end : goal.returns-then-paid-eq0-clause-end
returns-then-paid-eq0-clause-end g c =
    end-unpaid c.args.along.now c.args.year c.insured_in-paid.result
    c.exact-then-paid-eq0.result c.insured_in-paid.ensures.value c.if-paid-eq0.true
    c.exact-then-paid-eq0.ensures.lo c.exact-then-paid-eq0.ensures.hi

pub scale-requires-clause-lo_in : goal.scale-requires-clause-lo_in
unfolding EnclosesOneEnd
scale-requires-clause-lo_in g c =
    low-has-room _ _ _ _ _ c.value_of_one-one.result c.value_of_one-one.ensures.one c.lo-lowest.ensures.order
    c.from.result c.insured_in-paid.result c.from.ensures c.insured_in-paid.ensures.small

pub scale-requires-clause-hi_in : goal.scale-requires-clause-hi_in
unfolding EnclosesOneEnd
scale-requires-clause-hi_in g c =
    high-has-room _ _ _ _ _ c.value_of_one-one.result c.value_of_one-one.ensures.one c.lo-lowest.ensures.order
    c.from.result c.insured_in-paid.result c.from.ensures c.insured_in-paid.ensures.small

pub returns-clause-end : goal.returns-clause-end
unfolding EnclosesEnd EnclosesOneEnd
returns-clause-end g c =
    let along = c.args.along.now in
    let pay = of_one (pay_of along.pay.now) in
    let paid = c.insured_in-paid in
    let scaled = c.scale.ensures in
    rw (← paid.ensures.value) (present-times _ _ _ _ _ c.value_of_one-one.result c.value_of_one-one.ensures.one
    c.lo-lowest.ensures.order c.from.result paid.result c.from.ensures paid.ensures.small c.scale.result
    (greatest_factor along.pay.now.vary along.horizon)
    (omega (
      arith,
      paid.ensures.value,
      insured-within pay refl c.args.year along.horizon (omega (
        arith,
        c.requires.before,
      )),
    ))
    scaled.lo scaled.hi scaled.encloses scaled.narrow)

pub returns-then-not-can_fall_on_term-clause-end : goal.returns-then-not-can_fall_on_term-clause-end
returns-then-not-can_fall_on_term-clause-end g c =
    let silent : can_fall_on_term (pay_of c.args.along.now.pay.now) (c.args.year + 1) ≡ false =
    sym c.can_fall_on_term.ensures ∙ grind (arith, c.if-not-can_fall_on_term.true) in
    end-silent c.args.along.now c.args.year c.exact.result (rw add-one at silent)
    c.exact.ensures.lo c.exact.ensures.hi
