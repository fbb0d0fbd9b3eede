-- Laws of contract files: what they write, and their first faults.
use Rattle.std.specs.Prelude.{◌≡◌, ◌⊎◌, ℕ, List}
use Rattle.halo_table.specs.DecrementTable.{TableFile}
use Rattle.halo_contract.specs.PlainContract.{PlainContract}
use Rattle.halo_parse.specs.Faults.{IsContractFault, WritesContract}
use Rattle.halo_check.specs.declared.fault.ContractKind.{ContractKind}

-- a file writes at most one contract
abbrev pub ContractIsOne : Type 0
ContractIsOne = (tables : TableFile) (bytes : List ℕ) (contract other : PlainContract)
    → WritesContract tables bytes contract → WritesContract tables bytes other → contract ≡ other

-- a file has at most one first fault: one line, and one kind there
abbrev pub FirstFaultIsOne : Type 0
FirstFaultIsOne = (tables : TableFile) (bytes : List ℕ) (line other_line : ℕ)
    (k other_kind : ContractKind)
    → IsContractFault tables bytes line k → IsContractFault tables bytes other_line other_kind
    → (line ≡ other_line) × (k ≡ other_kind)

-- a file that writes a contract has no fault
abbrev pub NoFaultIsFirst : Type 0
NoFaultIsFirst = (tables : TableFile) (bytes : List ℕ) (contract : PlainContract)
    (line : ℕ) (k : ContractKind)
    → WritesContract tables bytes contract → IsContractFault tables bytes line k → ⊥

-- every file writes a contract, or has a first fault
abbrev pub ContractOrFault : Type 0
ContractOrFault = (tables : TableFile) (bytes : List ℕ)
    → ((contract : PlainContract) × WritesContract tables bytes contract)
    ⊎ ((line : ℕ) × (k : ContractKind) × IsContractFault tables bytes line k)
