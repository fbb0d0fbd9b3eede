-- What the functions answer that read the lines of a contract file.
use Rattle.std.specs.Prelude.{◌≡◌, ◌⊎◌, ℕ, List, Result, Ok, Err, ⊤}
use Rattle.halo_table.specs.DecrementTable.{TableFile}
use Rattle.halo_check.specs.Draft.{Draft, with_line}
use Rattle.halo_parse.specs.Faults.{HasFault, IsContractFault, IsFine, WritesContract}
use Rattle.halo_syntax.specs.FileLines.{IsSilent}
use Rattle.halo_syntax.specs.Line.{Line}
use Rattle.halo_contract.specs.declared.contract.Contract.{Contract}
use Rattle.halo_check.specs.declared.error.LineError.{LineError}
use Rattle.halo_check.specs.declared.error.LineError.TheVariants as error
use Rattle.halo_parse.specs.declared.fault.ContractError.{ContractError}
use Rattle.halo_parse.specs.declared.fault.ContractError.TheVariants as told
use Rattle.halo_contract.specs.PlainContract.{contract_of}

-- an error tells the first fault of a text, behind the lines that have made a draft; want of memory
-- tells nothing
abbrev pub IsToldOf : TableFile → Draft → List ℕ → LineError → Type 0
IsToldOf tables d text (error.Fault k) = HasFault tables d text k
IsToldOf tables d text error.Memory = ⊤

-- a text without fault takes one draft to another: the same where it says nothing, and else with
-- its line
abbrev pub TakesText : TableFile → Draft → List ℕ → Draft → Type 0
TakesText tables d text next =
    (IsSilent text × (next ≡ d))
    ⊎ ((l : Line) × IsFine tables d text l × (next ≡ with_line tables d l))

-- the contract that the bytes write, or their first fault; want of memory tells nothing
abbrev pub ReadsContract : TableFile → List ℕ → Result Contract ContractError → Type 0
ReadsContract tables bytes (Ok contract) = WritesContract tables bytes (contract_of contract)
ReadsContract tables bytes (Err (told.Fault f)) = IsContractFault tables bytes f.line f.kind
ReadsContract tables bytes (Err told.Memory) = ⊤
