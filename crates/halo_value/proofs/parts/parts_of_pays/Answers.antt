use Rattle.std.proofs.Common.{ℕ, [], ◌∷◌, ◌<◌, length, map, take, ap, sym, subst, ◌∙◌, lit<, arith}
use Rattle.std.specs.Prelude.{All}
use Rattle.std.proofs.Math.ListN.{get_or-map}
use Rattle.std.proofs.lemmas.List.{length-map, map-append, map_more}
use Rattle.std.proofs.lemmas.List.Elements.{All-push}
use Rattle.std.proofs.lemmas.Slice.Zip.{all_zipped_more}
use Rattle.halo_status.specs.Pay.{pay_of}
use Rattle.halo_status.specs.declared.pay.Pay.{Pay}
use Rattle.halo_lines.specs.Parts.{ExplainsPay, IsPrintablePart, parts_of}
use Rattle.halo_lines.specs.declared.parts.Part.{Part}
use Rattle.std.specs.Global.{Vec}
use Rattle.halo_compile.specs.Order.{AreSetsInOrder}
use Rattle.halo_value.specs.Setting.{CanBeValued, basis_of_setting}
use Rattle.halo_value.proofs.parts.parts_of_pays.Goals as goal

pub parts_of_pay-requires : goal.parts_of_pay-requires
parts_of_pay-requires g c =
    let pays = c.args.pays.now in
    let pay : Pay = c.pay-item.result in
    let i : ℕ = c.loop-pay.pay-index in
    let below : i < length (map pay_of pays) = omega (arith, length-map pays pay_of, c.loop-pay-test.true) in
    let can = subst (CanBeValued g.row.N) (get_or-map pay_of pays i pay ∙ ap pay_of (sym c.pay-item.is))
    (c.requires.pays i (pay_of pay) below) in
    let order : AreSetsInOrder g.row.N c.deref.result.now = rw c.deref.ensures.value (record {
      order = c.in_ok-sets.ensures.sets;
      below = c.in_ok-sets.ensures.below;
    }) in
    (lit< tt, (lit< tt, (c.requires.sets, (can, (c.requires.start, order)))))

pub loop-pay-preserved : goal.loop-pay-preserved
loop-pay-preserved g c =
    let pays = c.args.pays.now in
    let pay : Pay = c.pay-item.result in
    let i : ℕ = c.loop-pay.pay-index in
    let listed = map_more pay_of pays i pay c.loop-pay-test.true in
    let told : Vec Part = c.in_ok-parts_of_pay.field-0 in
    let pushed = ap parts_of c.in_ok-push.ensures.items
    ∙ map-append (λ (parts : Vec Part). parts.items) c.loop-pay.told.items (told ∷ []) in record {
      explains = rw (listed, pushed, ← c.pay-item.is)
          (all_zipped_more (ExplainsPay (basis_of_setting c.args.setting.now)) (map pay_of (take i pays))
          (parts_of c.loop-pay.told.items) (pay_of pay) told.items c.loop-pay.invariant.explains
          c.in_ok-parts_of_pay.ensures.explains);
      printable = rw pushed
          (All-push (All (IsPrintablePart g.row.N)) (parts_of c.loop-pay.told.items) told.items
          c.loop-pay.invariant.printable c.in_ok-parts_of_pay.ensures.printable);
    }
