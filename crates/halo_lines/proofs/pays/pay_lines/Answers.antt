use Rattle.std.proofs.Common.{[], get_or, map, take, arith}
use Rattle.halo_status.specs.Pay.{pay_of}
use Rattle.halo_model.specs.Line.{IsPayLine}
use Rattle.halo_contract.specs.Premium.{all_lives}
use Rattle.halo_model.proofs.Benefits.{no-benefits, one-benefit-more}
use Rattle.halo_model.proofs.Printing.{pay-has-line}
use Rattle.std.proofs.lemmas.Int.{ints}
use Rattle.std.proofs.lemmas.List.Elements.{All-push}
use Rattle.halo_lines.specs.Printable.{IsPrintable}
use Rattle.halo_lines.proofs.PrintedEnds.{printed-fit}
use Rattle.halo_lines.proofs.PayByPay.{pay-at, zip-push}
use Rattle.halo_lines.proofs.Room.{can-add, nothing-total}
use Rattle.halo_lines.proofs.pays.pay_lines.Goals as goal

pub loop-place-init : goal.loop-place-init
loop-place-init c = record {
  lines = rw c.new-lines.ensures.items (λ b are. tt);
  printable = rw c.new-lines.ensures.items (λ k d within. absurd (omega arith));
}

pub add_pay-benefit-requires : goal.add_pay-benefit-requires
add_pay-benefit-requires c =
    let at = pay-at c.args.pays.now c.args.values.now c.loop-place.place c.index-pays-place.result
    c.index-values-place.result c.requires.room c.requires.same c.loop-place-test.true c.index-values-place.is in
    let amount = (get_or c.args.pays.now c.loop-place.place c.index-pays-place.result).amount in
    let nothing = nothing-total c.exact.result c.exact.ensures.lo c.exact.ensures.hi in
    let can = can-add c.exact.result c.index-values-place.result 0 amount nothing at.small (omega (arith, at.few)) in
    record {
      amount_in = omega (arith, at.few);
      sum_in = can.sum_in;
      value_in = can.value_in;
      result_in = can.result_in;
    }

pub loop-place-preserved : goal.loop-place-preserved
loop-place-preserved c =
    let at = pay-at c.args.pays.now c.args.values.now c.loop-place.place c.index-pays-place.result
    c.index-values-place.result c.requires.room c.requires.same c.loop-place-test.true c.index-values-place.is in
    let pay = pay_of (get_or c.args.pays.now c.loop-place.place c.index-pays-place.result) in
    let before = map pay_of (take c.loop-place.place c.args.pays.now) in
    let sum = c.add_pay-benefit.ensures in
    let printed = c.to_nano.ensures in
    let fits : IsPrintable c.to_nano.result = printed-fit c.add_pay-benefit.result c.to_nano.result c.lo.ensures.order
    (record {
      low = omega (arith, ints, c.add_pay-benefit.ensures.within.low);
      high = omega (arith, ints, c.add_pay-benefit.ensures.within.high);
    })
    printed.low printed.high in
    record {
      printable = rw c.in_ok-push.ensures.items (All-push IsPrintable c.loop-place.lines.items c.to_nano.result
          c.loop-place.invariant.printable fits);
      lines = rw (at.listed, c.in_ok-push.ensures.items) (λ b are.
          let alone =
          one-benefit-more b [] pay 0 all_lives c.exact.result c.index-values-place.result c.add_pay-benefit.result
          (no-benefits b 0 all_lives c.exact.result c.exact.ensures.lo c.exact.ensures.hi)
          (at.enclosed b 0 all_lives are) sum.lo sum.hi in
          zip-push (IsPayLine b) before c.loop-place.lines.items pay c.to_nano.result (c.loop-place.invariant.lines b
          are)
          (pay-has-line b pay c.add_pay-benefit.result c.to_nano.result alone
          (record { encloses = printed.encloses; narrow = printed.narrow })));
    }

pub returns-clause-printable : goal.returns-clause-printable
returns-clause-printable c = c.loop-place.invariant.printable
