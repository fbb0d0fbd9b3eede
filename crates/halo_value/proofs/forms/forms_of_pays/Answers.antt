use Rattle.std.proofs.Common.{ℕ, ◌<◌, length, map, take, ap, sym, subst, ◌∙◌, lit<, arith}
use Rattle.std.proofs.Math.ListN.{get_or-map}
use Rattle.std.proofs.lemmas.List.{length-map, map_more}
use Rattle.std.proofs.lemmas.Slice.Zip.{all_zipped_more}
use Rattle.halo_status.specs.Pay.{pay_of}
use Rattle.halo_status.specs.declared.pay.Pay.{Pay}
use Rattle.halo_model.specs.FromTables.{lives_of}
use Rattle.halo_value.specs.Forms.{IsFormOn}
use Rattle.halo_value.specs.Setting.{CanBeValued}
use Rattle.halo_value.proofs.forms.forms_of_pays.Goals as goal

pub form_of_pay-requires : goal.form_of_pay-requires
form_of_pay-requires g c =
    let pays = c.args.pays.now in
    let pay : Pay = c.pay-item.result in
    let i : ℕ = c.loop-pay.pay-index in
    let below : i < length (map pay_of pays) = omega (arith, length-map pays pay_of, c.loop-pay-test.true) in
    let same = get_or-map pay_of pays i pay ∙ ap pay_of (sym c.pay-item.is) in
    let can = subst (CanBeValued (length c.args.lives.now)) same (c.requires.pays i (pay_of pay) below) in
    (lit< tt, (c.requires.lives, can))

pub loop-pay-preserved : goal.loop-pay-preserved
loop-pay-preserved g c =
    let pays = c.args.pays.now in
    let lives = c.args.lives.now in
    let pay : Pay = c.pay-item.result in
    let i : ℕ = c.loop-pay.pay-index in
    let listed = map_more pay_of pays i pay c.loop-pay-test.true in
    rw (listed, c.in_ok-push.ensures.items, ← c.pay-item.is)
    (all_zipped_more (IsFormOn (length lives) (lives_of c.args.tables.now lives)) (map pay_of (take i pays))
    c.loop-pay.forms.items (pay_of pay) c.in_ok-form_of_pay.field-0 c.loop-pay.invariant c.in_ok-form_of_pay.ensures)
