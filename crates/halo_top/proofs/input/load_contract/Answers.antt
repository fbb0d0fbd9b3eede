use Rattle.std.proofs.Common.{◌≤◌, length, arith}
use Rattle.halo_top.specs.Input.{HasContractFault}
use Rattle.halo_top.specs.declared.refusal.TheConstants.{LONGEST_CONTRACT}
use Rattle.halo_top.proofs.Loads.{no-contract}
use Rattle.halo_top.proofs.Told.{told}
use Rattle.halo_top.proofs.input.load_contract.Goals as goal

pub returns-in_err-read_contract-clause-contract : goal.returns-in_err-read_contract-clause-contract
returns-in_err-read_contract-clause-contract g c =
    let tables = c.args.tables.now in
    let bytes = c.in_ok-bytes.bytes in
    let short : length bytes.items ≤ LONGEST_CONTRACT = omega (arith, bytes.ok.0, c.in_ok-bytes.ensures.bytes.0) in
    no-contract tables _ _ c.in_err-read_contract.field-0.0 c.from_residual-in_err-read_contract.result
    c.from_residual-in_err-read_contract.ensures.1
    (λ fault is. told _ bytes.items (λ all. HasContractFault tables all fault) c.in_ok-bytes.ensures.bytes.1
    (record { short = short; first = rw (is, c.deref.ensures.value) at c.in_err-read_contract.ensures }))
