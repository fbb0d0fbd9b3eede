use Rattle.std.proofs.Common.{◌≡◌}
use Rattle.std.proofs.lemmas.Result.{IfOk-weaker}
use Rattle.halo_contract.specs.PlainContract.{contract_of}
use Rattle.halo_lines.specs.Report.{report_of}
use Rattle.halo_report.specs.ValueText.{report_text}
use Rattle.halo_top.specs.Verdict.{IsTextOf}
use Rattle.halo_top.specs.declared.command.Task.TheVariants as task
use Rattle.halo_top.proofs.value.value.Goals as goal

pub returns : goal.returns
returns c =
    let report = report_of c.in_ok-report.report in
    IfOk-weaker c.value_text.result (λ text. text.items ≡ report_text report)
    (λ text. IsTextOf task.Value c.args.tables.now (contract_of c.args.contract.now) text.items)
    (λ text is. (report, c.in_ok-report.ensures.encloses, is)) c.value_text.ensures
