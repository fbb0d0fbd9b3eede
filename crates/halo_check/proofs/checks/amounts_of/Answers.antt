use Rattle.std.proofs.Common.{◌+◌, ◌∙◌, arith, ap, map, refl, sym}
use Rattle.std.proofs.lemmas.List.{take_all}
use Rattle.halo_status.specs.Pay.{pay_of}
use Rattle.halo_contract.specs.PlainContract.{amount_of_all}
use Rattle.halo_check.proofs.Amounts.{amounts_more, amounts_within}
use Rattle.halo_check.proofs.checks.amounts_of.Goals as goal

pub loop-pay-init : goal.loop-pay-init
loop-pay-init c = refl

pub overflow_add-sum : goal.overflow_add-sum
overflow_add-sum c =
    let more =
    rw (← c.pay-item.is) at (amounts_more c.args.pays.now c.loop-pay.pay-index c.pay-item.result
    c.loop-pay-test.true) in
    omega (arith, c.loop-pay.invariant, more, amounts_within c.args.pays.now (c.loop-pay.pay-index + 1), c.requires)

pub loop-pay-preserved : goal.loop-pay-preserved
loop-pay-preserved c =
    let more =
    rw (← c.pay-item.is) at (amounts_more c.args.pays.now c.loop-pay.pay-index c.pay-item.result
    c.loop-pay-test.true) in
    ap (λ n. n + c.pay-item.result.amount) c.loop-pay.invariant ∙ sym more

pub returns : goal.returns
returns c =
    c.loop-pay.invariant ∙ ap (λ pays. amount_of_all (map pay_of pays))
    (take_all c.loop-pay.pay-index c.args.pays.now (omega (arith, c.loop-pay-test.false)))
