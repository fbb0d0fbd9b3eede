-- The pays of a valid contract have forms, and so has its premium.
use Rattle.std.proofs.Common.{◌≡◌, List, length, map, ap, lit<, sym, subst, ◌∙◌}
use Rattle.std.specs.Prelude.{All}
use Rattle.std.specs.List.{AllZip}
use Rattle.std.specs.Option.{option_map}
use Rattle.halo_status.specs.Pay.{pay_of}
use Rattle.halo_status.specs.declared.pay.Pay.{Pay}
use Rattle.halo_contract.specs.PlainContract.{PlainContract, contract_of}
use Rattle.halo_model.specs.FromTables.{lives_of}
use Rattle.halo_table.specs.declared.lives.Life.{Life}
use Rattle.halo_value.specs.Forms.{IsFormOn}
use Rattle.halo_value.specs.Setting.{CanBeValued}
use Rattle.halo_value.specs.Setting.{declared}
use Rattle.halo_value.proofs.FormsOfContract.{have-sets, pays-compiled, premium-compiled, with-premium, without-premium}
use Rattle.halo_value.proofs.forms.compiled_forms.Goals as goal
use Rattle.halo_value.proofs.forms.compiled_forms.Goals.{in-Some+in_ok-form_of_pay+in_ok-push, in_default}

pub forms_of_pays-requires : goal.forms_of_pays-requires
forms_of_pays-requires g c =
    let contract : PlainContract = contract_of c.args.contract.now in
    let lives : c.deref-3.result.now ≡ declared contract.lives =
    c.deref-3.ensures.value ∙ c.in_ok-lives.ensures ∙ ap declared c.deref.ensures.value in
    let pays = subst (λ (ps : List Pay). All (CanBeValued (length c.deref-3.result.now)) (map pay_of ps))
    (sym c.deref-2.ensures.value)
    (pays-compiled c.args.tables.now contract c.requires.valid c.deref-3.result.now lives) in
    let sets = have-sets c.args.tables.now contract c.requires.valid c.deref-3.result.now lives g.row.M
    c.requires.sets in
    (lit< tt, (sets, pays))

pub form_of_pay-requires : goal.form_of_pay-requires
form_of_pay-requires g c =
    let contract : PlainContract = contract_of c.args.contract.now in
    let lives : c.deref-in-Some.result.now ≡ declared contract.lives =
    c.deref-in-Some.ensures.value ∙ c.in_ok-lives.ensures ∙ ap declared c.deref.ensures.value in (
      lit< tt,
      (
        have-sets c.args.tables.now contract c.requires.valid c.deref-in-Some.result.now lives g.row.M c.requires.sets,
        premium-compiled c.args.tables.now contract c.requires.valid c.deref-in-Some.result.now lives
            (pay_of c.in-Some.pay) (ap (option_map pay_of) c.in-Some.is),
      ),
    )

pub returns : goal.returns
returns g c =
    let contract : PlainContract = contract_of c.args.contract.now in
    let tables = c.args.tables.now in
    let told : List Life = c.deref-3.result.now in
    let lives : told ≡ declared contract.lives =
    c.deref-3.ensures.value ∙ c.in_ok-lives.ensures ∙ ap declared c.deref.ensures.value in
    let forms = c.in_ok-forms.forms.items in
    let of_pays = subst
    (λ (ps : List Pay). AllZip (IsFormOn (length told) (lives_of tables told)) (map pay_of ps) forms)
    c.deref-2.ensures.value c.in_ok-forms.ensures in
    elim c.match-contract.branch [
      | in-Some+in_ok-form_of_pay+in_ok-push w ↦
          let pay = pay_of w.in-Some.pay in
          let form = w.in_ok-form_of_pay.field-0 in
          let same : w.deref-in-Some.result.now ≡ told = w.deref-in-Some.ensures.value ∙ sym c.deref-3.ensures.value in
          let of_premium = subst (λ (ls : List Life). IsFormOn (length ls) (lives_of tables ls) pay form) same
          w.in_ok-form_of_pay.ensures in
          rw (w.forms-is, w.in_ok-push.ensures.items)
          (with-premium tables contract c.requires.valid told lives forms of_pays pay form
          (ap (option_map pay_of) w.in-Some.is) of_premium)
      | in_default w ↦
          rw w.forms-is
          (without-premium tables contract c.requires.valid told lives forms of_pays
          (ap (option_map pay_of) w.in_default.is))
    ]
