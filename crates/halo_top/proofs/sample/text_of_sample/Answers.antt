use Rattle.std.proofs.Common.{◌≡◌, length, ap, sym, ◌∙◌}
use Rattle.halo_contract.specs.PlainContract.{contract_of}
use Rattle.halo_lines.specs.Report.{report_of}
use Rattle.halo_parse.proofs.ValidContracts.{contracts_are_valid}
use Rattle.halo_sample.specs.Sample.{sample_contract, sample_tables}
use Rattle.halo_top.proofs.Samples.{sample-holds}
use Rattle.halo_top.proofs.sample.text_of_sample.Goals as goal

pub value_report-requires : goal.value_report-requires
value_report-requires c =
    contracts_are_valid c.in_ok-tables.tables c.deref-2.result.now (contract_of c.in_ok-contract.contract)
    c.in_ok-contract.ensures.told

pub returns-clause-told : goal.returns-clause-told
returns-clause-told c =
    let n = c.args.number in
    let tables = c.in_ok-tables.tables in
    let contract = contract_of c.in_ok-contract.contract in
    let report = report_of c.in_ok-report.report in
    let holds = sample-holds n tables contract c.deref-2.result.now c.in_ok-tables.ensures.told
    (c.deref-2.ensures.value ∙ c.in_ok-files.ensures.contract) c.in_ok-contract.ensures.told in
    let tables_len : c.len.result ≡ length (sample_tables n)
    = c.len.ensures ∙ sym c.deref.ensures.len ∙ ap length (c.deref.ensures.value ∙ c.in_ok-files.ensures.tables) in
    let contract_len : c.len-2.result ≡ length (sample_contract n)
    = c.len-2.ensures ∙ sym c.deref-2.ensures.len
    ∙ ap length (c.deref-2.ensures.value ∙ c.in_ok-files.ensures.contract) in
    record {
      tables = tables;
      contract = contract;
      report = report;
      holds = holds;
      encloses = c.in_ok-report.ensures.encloses;
      text_is = rw (tables_len, contract_len) at c.in_ok-sample_text.ensures;
    }
