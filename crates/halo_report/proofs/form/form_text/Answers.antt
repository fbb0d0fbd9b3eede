-- The form of the premium stands behind those of the pays.
use Rattle.std.proofs.Common.{◌≡◌, ◌<◌, [], arith, length, map, rules}
use Rattle.std.proofs.lemmas.List.{length-map}
use Rattle.halo_status.specs.Pay.{pay_of}
use Rattle.halo_report.specs.FormText.{form_at}
use Rattle.halo_report.proofs.PaysLines.{read-at}
use Rattle.halo_report.proofs.form.form_text.Goals as goal
use Rattle.halo_report.proofs.form.form_text.Goals.{in-Some+in_ok-write_premium, in_default}

pub returns : goal.returns
returns g c =
    let written =
    rw (c.new-text.ensures.items, c.deref.ensures.value, c.deref-3.ensures.value) at c.in_ok-write_pays.ensures in
    elim c.match-contract.branch [
      | in-Some+in_ok-write_premium w ↦
          let count : length (map pay_of c.args.contract.now.pays.items) ≡ w.len-in-Some.result =
          omega (arith, length-map c.args.contract.now.pays.items pay_of, w.len-in-Some.ensures) in
          let enough = rw (w.in-Some.is, count) at c.requires.forms in
          let within : w.len-in-Some.result < length c.args.forms.now = omega (arith, enough) in
          let form : form_at c.args.forms.now w.len-in-Some.result ≡ w.index-forms-len.result =
          read-at c.args.forms.now w.len-in-Some.result w.index-forms-len.result [] within w.index-forms-len.is in
          rw (w.in-Some.is, count, form)
          (search (rules, written, w.in_ok-write_premium.ensures, w.text-is, w.deref-in-Some-2.ensures.value))
      | in_default w ↦ search (rules, written)
    ]
