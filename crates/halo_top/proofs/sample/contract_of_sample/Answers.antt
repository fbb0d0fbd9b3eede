use Rattle.halo_parse.proofs.laws.OneFault.{no_fault_is_first}
use Rattle.halo_sample.specs.Sample.{sample_contract}
use Rattle.halo_sampled.specs.DrawnTables.{drawn_tables}
use Rattle.halo_top.proofs.Loads.{contract-wants-memory, stops-with}
use Rattle.halo_top.proofs.sample.contract_of_sample.Goals as goal

pub returns-in_err-read_contract-clause-memory : goal.returns-in_err-read_contract-clause-memory
returns-in_err-read_contract-clause-memory c =
    let n = c.args.number in
    let contract = c.contract_has_no_fault.ensures n in
    stops-with c.from_residual.result _ _ c.from_residual.ensures.1
    (contract-wants-memory c.in_err-read_contract.field-0.0 (λ fault is.
    no_fault_is_first (drawn_tables n) (sample_contract n) contract.0 fault.line fault.kind contract.1
    (rw (is, c.requires.tables, c.requires.file) at c.in_err-read_contract.ensures)))
