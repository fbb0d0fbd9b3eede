use Rattle.std.proofs.Common.{get_or, map, take, arith}
use Rattle.halo_status.specs.Pay.{pay_of}
use Rattle.halo_model.proofs.Benefits.{no-benefits, one-benefit-more}
use Rattle.halo_lines.proofs.PayByPay.{amounts, amounts-more, pay-at}
use Rattle.halo_lines.proofs.Room.{can-add, nothing-total, total-more}
use Rattle.halo_lines.proofs.pays.benefits.Goals as goal

pub loop-place-init : goal.loop-place-init
loop-place-init c =
    let zero = c.exact-total.ensures in
    record {
      room = nothing-total c.exact-total.result zero.lo zero.hi;
      benefits = λ b T S are. no-benefits b T S c.exact-total.result zero.lo zero.hi;
    }

pub add_pay-total-requires : goal.add_pay-total-requires
add_pay-total-requires c =
    let at = pay-at c.args.pays.now c.args.values.now c.loop-place.place c.index-pays-place.result
    c.index-values-place.result c.requires.room c.requires.same c.loop-place-test.true c.index-values-place.is in
    let can = can-add c.loop-place.total c.index-values-place.result _ _ c.loop-place.invariant.room at.small at.few in
    record {
      amount_in = omega (arith, at.few);
      sum_in = can.sum_in;
      value_in = can.value_in;
      result_in = can.result_in;
    }

pub loop-place-preserved : goal.loop-place-preserved
loop-place-preserved c =
    let at = pay-at c.args.pays.now c.args.values.now c.loop-place.place c.index-pays-place.result
    c.index-values-place.result c.requires.room c.requires.same c.loop-place-test.true c.index-values-place.is in
    let pay = pay_of (get_or c.args.pays.now c.loop-place.place c.index-pays-place.result) in
    let before = map pay_of (take c.loop-place.place c.args.pays.now) in
    let sum = c.add_pay-total.ensures in
    rw at.listed (record {
      room = rw (amounts-more before pay) (total-more c.loop-place.total c.index-values-place.result (amounts before)
          pay.amount c.loop-place.invariant.room at.small c.add_pay-total.result sum.lo sum.hi);
      benefits = λ b T S are. one-benefit-more b before pay T S c.loop-place.total c.index-values-place.result
          c.add_pay-total.result (c.loop-place.invariant.benefits b T S are) (at.enclosed b T S are) sum.lo sum.hi;
    })
