use Rattle.std.proofs.Common.{ℕ, ◌<◌, length, map, take, ap, sym, subst, ◌∙◌, lit<, arith}
use Rattle.std.proofs.Math.ListN.{get_or-map}
use Rattle.std.proofs.lemmas.List.{length-map, map_more}
use Rattle.std.proofs.lemmas.Slice.Zip.{all_zipped_more}
use Rattle.halo_status.specs.Pay.{pay_of}
use Rattle.halo_status.specs.declared.pay.Pay.{Pay}
use Rattle.halo_value.specs.PayValues.{AreValuesOf}
use Rattle.halo_value.specs.Setting.{CanBeValued, basis_of_setting}
use Rattle.halo_value.proofs.pays.values_of_pays.Goals as goal

pub values_of_pay-requires : goal.values_of_pay-requires
values_of_pay-requires g c =
    let pays = c.args.pays.now in
    let pay : Pay = c.pay-item.result in
    let i : ℕ = c.loop-pay.pay-index in
    let below : i < length (map pay_of pays) = omega (arith, length-map pays pay_of, c.loop-pay-test.true) in
    let can = subst (CanBeValued g.row.N) (get_or-map pay_of pays i pay ∙ ap pay_of (sym c.pay-item.is))
    (c.requires.pays i (pay_of pay) below) in
    (lit< tt, (lit< tt, (c.requires.sets, (can, c.requires.reserves))))

pub loop-pay-preserved : goal.loop-pay-preserved
loop-pay-preserved g c =
    let pays = c.args.pays.now in
    let pay : Pay = c.pay-item.result in
    let i : ℕ = c.loop-pay.pay-index in
    let listed = map_more pay_of pays i pay c.loop-pay-test.true in
    rw (listed, c.in_ok-push.ensures.items, ← c.pay-item.is)
    (all_zipped_more (AreValuesOf (basis_of_setting c.args.setting.now) c.args.setting.now.reserves.now)
    (map pay_of (take i pays)) c.loop-pay.values.items (pay_of pay) c.in_ok-values_of_pay.field-0
    c.loop-pay.invariant c.in_ok-values_of_pay.ensures.encloses)
