-- The files that a command reads: what is answered for each, as far as the shelf tells it.
use Rattle.std.specs.Prelude.{◌≡◌, ℕ, ◌<◌, ◌≤◌, List, length, Option, IfSome, vec_len, ⊤}
use Rattle.std.specs.Prelude.{Result, Ok, Err}
use Rattle.std.specs.Global.{Vec}
use Rattle.halo_records.specs.Records.{records_of}
use Rattle.halo_table.specs.DecrementTable.{TableFile}
use Rattle.halo_table.specs.Faults.{IsFirstFault, NoFault}
use Rattle.halo_table.specs.Grouping.{tables_of}
use Rattle.halo_table.specs.declared.fault.TableFault.{TableFault}
use Rattle.halo_table.specs.declared.held.TheConstants.{LONGEST_FILE}
use Rattle.halo_contract.specs.PlainContract.{PlainContract, contract_of}
use Rattle.halo_contract.specs.declared.contract.Contract.{Contract}
use Rattle.halo_parse.specs.Faults.{IsContractFault, WritesContract}
use Rattle.halo_parse.specs.declared.fault.ContractFault.{ContractFault}
use Rattle.halo_top.specs.declared.refusal.TheConstants.{LONGEST_CONTRACT}
use Rattle.halo_top.specs.declared.refusal.InputFile.{InputFile}
use Rattle.halo_top.specs.declared.refusal.InputFile.TheVariants as file
use Rattle.halo_top.specs.declared.refusal.Refusal.TheVariants as refusal
use Rattle.halo_top.specs.declared.refusal.Stop.{Stop}
use Rattle.halo_top.specs.declared.refusal.Stop.TheVariants as stop

-- the greatest number of bytes of a file
abbrev pub limit_of : InputFile → ℕ
limit_of file.Tables = LONGEST_FILE
limit_of file.Contract = LONGEST_CONTRACT

-- the bytes of a tables file are few enough, and their records have no fault
pub record AreTables (bytes : List ℕ) : Type 0 where
  pub short : length bytes ≤ limit_of file.Tables
  pub fine : NoFault (records_of bytes)

-- they are so, and these are their tables
pub record HasTables (bytes : List ℕ) (tables : TableFile) : Type 0 where
  pub in_order : AreTables bytes
  pub tables_are : tables ≡ tables_of (records_of bytes)

-- the bytes of a tables file are few enough, and this is the first fault of their records
pub record HasTableFault (bytes : List ℕ) (fault : TableFault) : Type 0 where
  pub short : length bytes ≤ limit_of file.Tables
  pub first : IsFirstFault (records_of bytes) fault.row fault.kind

-- the bytes of a contract file are few enough, and this is the first fault of their lines with
-- these tables
pub record HasContractFault (tables : TableFile) (bytes : List ℕ) (fault : ContractFault)
    : Type 0 where
  pub short : length bytes ≤ limit_of file.Contract
  pub first : IsContractFault tables bytes fault.line fault.kind

-- the bytes of a contract file are few enough, and write this contract with these tables
pub record HasContract (tables : TableFile) (bytes : List ℕ) (contract : PlainContract)
    : Type 0 where
  pub short : length bytes ≤ limit_of file.Contract
  pub writes : WritesContract tables bytes contract

-- the bytes of a file, or a refusal: `Read` only where its count of faults rose, and `TooLong`
-- exactly where the told file is longer than its limit
abbrev pub LoadsFile : InputFile → Option (List ℕ) → Type 0 → Result (Vec ℕ) Stop → Type 0
LoadsFile f told rose (Ok bytes) =
    (vec_len bytes ≤ limit_of f) × IfSome told (λ all. bytes.items ≡ all)
LoadsFile f told rose (Err (stop.Refused (refusal.Read g))) = (g ≡ f) × rose
LoadsFile f told rose (Err (stop.Refused (refusal.TooLong g))) =
    (g ≡ f) × IfSome told (λ all. limit_of f < length all)
LoadsFile f told rose (Err stop.Memory) = ⊤
LoadsFile f told rose (Err _) = ⊥

-- the tables of a tables file, or why there are none
abbrev pub LoadsTables : Option (List ℕ) → Type 0 → Result TableFile Stop → Type 0
LoadsTables told rose (Ok tables) = IfSome told (λ all. HasTables all tables)
LoadsTables told rose (Err (stop.Refused (refusal.Read file.Tables))) = rose
LoadsTables told rose (Err (stop.Refused (refusal.TooLong file.Tables))) =
    IfSome told (λ all. limit_of file.Tables < length all)
LoadsTables told rose (Err (stop.Refused (refusal.Table fault))) =
    IfSome told (λ all. HasTableFault all fault)
LoadsTables told rose (Err stop.Memory) = ⊤
LoadsTables told rose (Err _) = ⊥

-- the contract that a contract file writes with these tables, or why there is none
abbrev pub LoadsContract : TableFile → Option (List ℕ) → Type 0 → Result Contract Stop → Type 0
LoadsContract tables told rose (Ok contract) =
    (bytes : List ℕ) × HasContract tables bytes (contract_of contract)
    × IfSome told (λ all. bytes ≡ all)
LoadsContract tables told rose (Err (stop.Refused (refusal.Read file.Contract))) = rose
LoadsContract tables told rose (Err (stop.Refused (refusal.TooLong file.Contract))) =
    IfSome told (λ all. limit_of file.Contract < length all)
LoadsContract tables told rose (Err (stop.Refused (refusal.Contract fault))) =
    IfSome told (λ all. HasContractFault tables all fault)
LoadsContract tables told rose (Err stop.Memory) = ⊤
LoadsContract tables told rose (Err _) = ⊥
