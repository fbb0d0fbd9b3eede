-- What the tables and the contract that were loaded make of the files as they are told.
use Rattle.std.proofs.Common.{◌≡◌, ℕ, List}
use Rattle.std.specs.Prelude.{IfSome}
use Rattle.halo_table.specs.DecrementTable.{TableFile}
use Rattle.halo_contract.specs.PlainContract.{PlainContract}
use Rattle.halo_top.specs.Input.{HasContract, HasTables}
use Rattle.halo_top.specs.Verdict.{IsContractAnswer, IsTextOf, Shelved}
use Rattle.halo_top.specs.declared.command.Task.{Task}
use Rattle.halo_top.proofs.Told.{told}

-- the tables and the bytes that were loaded are those of the files, as far as they are told
pub record AreLoaded (shelf : Shelved) (tables_name contract_name : List ℕ) (tables : TableFile) (bytes : List ℕ)
    : Type 0 where
  pub tables_are : IfSome (shelf.file tables_name) (λ all. HasTables all tables)
  pub bytes_are : IfSome (shelf.file contract_name) (λ all. bytes ≡ all)

module _ (t : Task) (shelf : Shelved) (tables_name contract_name : List ℕ) (tables : TableFile) (bytes : List ℕ)
    (contract : PlainContract) where
  -- what a task writes of the contract that was loaded, it writes of the files
  pub answers_files : AreLoaded shelf tables_name contract_name tables bytes → HasContract tables bytes contract
      → (text : List ℕ) → IsTextOf t tables contract text → IsContractAnswer t shelf tables_name contract_name text
  answers_files loaded has text is = record {
    tables = tables;
    contract = contract;
    written = record {
      tables_in = loaded.tables_are;
      contract_in = told (shelf.file contract_name) bytes (λ all. HasContract tables all contract) loaded.bytes_are has;
    };
    text_is = is;
  }
