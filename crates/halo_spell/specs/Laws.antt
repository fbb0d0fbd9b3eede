-- Laws of canonical texts.
use Rattle.std.specs.Prelude.{ℕ, List}
use Rattle.halo_table.specs.DecrementTable.{TableFile}
use Rattle.halo_table.specs.Sound.{IsSound}
use Rattle.halo_contract.specs.PlainContract.{PlainContract}
use Rattle.halo_parse.specs.Faults.{WritesContract}
use Rattle.halo_spell.specs.ContractText.{contract_text}

-- the canonical text of a contract that a file writes, writes the same contract
abbrev pub ReadsBack : Type 0
ReadsBack = (tables : TableFile) (bytes : List ℕ) (contract : PlainContract) → IsSound tables
    → WritesContract tables bytes contract
    → WritesContract tables (contract_text tables contract) contract
