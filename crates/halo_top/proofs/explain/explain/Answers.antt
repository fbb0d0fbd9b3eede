use Rattle.std.proofs.Common.{ap, length, sym, ◌∙◌}
use Rattle.std.proofs.lemmas.List.{length-map}
use Rattle.std.proofs.lemmas.Result.{IfOk-weaker}
use Rattle.halo_status.specs.Pay.{pay_of}
use Rattle.halo_contract.specs.PlainContract.{contract_of}
use Rattle.halo_lines.specs.Parts.{parts_of}
use Rattle.halo_report.specs.ExplainText.{explain_text}
use Rattle.halo_top.specs.Verdict.{IsTextOf}
use Rattle.halo_top.specs.declared.command.Task.TheVariants as task
use Rattle.halo_top.proofs.CompiledForms.{zip-length}
use Rattle.halo_top.proofs.explain.explain.Goals as goal

pub explain_text-requires-clause-lists : goal.explain_text-requires-clause-lists
explain_text-requires-clause-lists c =
    let pays = c.args.contract.now.pays.items in
    let parts = c.in_ok-parts.parts.items in
    let told = zip-length _ _ (parts_of parts) c.in_ok-parts.ensures.explains in
    ap length c.deref.ensures.value ∙ sym (length-map parts (λ part. part.items)) ∙ told ∙ length-map pays pay_of

pub returns : goal.returns
returns c =
    let contract = contract_of c.args.contract.now in
    let tables = c.args.tables.now in
    let parts = c.in_ok-parts.parts.items in
    IfOk-weaker c.explain_text.result _ (λ text. IsTextOf task.Explain tables contract text.items)
    (λ text is. (
      parts_of parts,
      c.in_ok-parts.ensures.explains,
      is ∙ ap (λ lists. explain_text tables contract (parts_of lists)) c.deref.ensures.value,
    )) c.explain_text.ensures
