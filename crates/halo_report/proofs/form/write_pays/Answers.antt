use Rattle.std.proofs.Common.{◌≡◌, ◌++◌, ◌<◌, [], arith, length}
use Rattle.halo_check.proofs.Each.{each_at}
use Rattle.halo_contract.specs.PlainContract.{life_names}
use Rattle.halo_status.specs.Pay.{pay_of}
use Rattle.halo_contract.specs.ValidContract.{IsValidAmong}
use Rattle.halo_report.specs.FormText.{form_at, form_lines}
use Rattle.halo_report.proofs.PaysLines.{next-pay, read-at}
use Rattle.halo_report.proofs.form.write_pays.Goals as goal

pub write_symbol_line-requires : goal.write_symbol_line-requires
write_symbol_line-requires g c =
    rw c.index-pays-place.is
    (each_at (IsValidAmong (length c.args.lives.now) (length c.args.tables.now.causes)) pay_of c.args.pays.now
    c.requires.pays c.loop-place.place c.index-pays-place.result c.loop-place-test.true)

pub loop-place-preserved : goal.loop-place-preserved
loop-place-preserved g c =
    let lines = form_lines (life_names c.args.lives.now) c.args.forms.now in
    let within : c.loop-place.place < length c.args.forms.now
    = omega (arith, c.loop-place-test.true, c.requires.forms) in
    let form : form_at c.args.forms.now c.loop-place.place ≡ c.index-forms-place.result =
    read-at c.args.forms.now c.loop-place.place c.index-forms-place.result [] within c.index-forms-place.is in
    let written : c.write_form.new.into.items ≡ c.write_symbol_line.new.into.items ++ lines c.loop-place.place =
    rw form c.in_ok-write_form.ensures in
    next-pay (life_names c.args.lives.now) c.args.tables.now.causes lines c.args.pays.now c.loop-place.place
    c.index-pays-place.result c.loop-place.into.items c.write_symbol_line.new.into.items c.write_form.new.into.items _
    c.loop-place-test.true c.index-pays-place.is c.in_ok-write_symbol_line.ensures written c.loop-place.invariant
