use Rattle.std.proofs.Common.{lit<, ap, ◌∙◌, length}
use Rattle.std.proofs.lemmas.Result.{IfOk-weaker}
use Rattle.halo_contract.specs.PlainContract.{contract_of}
use Rattle.halo_report.specs.FormText.{form_text}
use Rattle.halo_spell.proofs.Spellable.{spellable}
use Rattle.halo_top.specs.Verdict.{IsTextOf}
use Rattle.halo_top.specs.declared.command.Task.TheVariants as task
use Rattle.halo_top.proofs.CompiledForms.{forms-count, forms-told}
use Rattle.halo_top.proofs.compile.text_of_sets.Goals as goal

pub form_text-requires : goal.form_text-requires
form_text-requires g c =
    let contract = contract_of c.args.contract.now in
    let count = forms-count c.args.tables.now contract c.in_ok-forms.forms.items c.in_ok-forms.ensures in (
      lit< tt,
      (
        c.requires.sets,
        (
          c.requires.valid.few_lives,
          (ap length c.deref.ensures.value ∙ count, spellable c.args.tables.now _ c.requires.valid),
        ),
      ),
    )

pub returns : goal.returns
returns g c =
    let contract = contract_of c.args.contract.now in
    let tables = c.args.tables.now in
    let forms = c.in_ok-forms.forms.items in
    IfOk-weaker c.form_text.result _ (λ text. IsTextOf task.Compile tables contract text.items)
    (λ text is. forms-told tables contract forms c.in_ok-forms.ensures c.requires.sets text.items
    (is ∙ ap (form_text tables contract) c.deref.ensures.value)) c.form_text.ensures
