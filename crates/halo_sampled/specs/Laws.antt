-- What holds of the files of every sample.
use Rattle.std.specs.Prelude.{ℕ, ◌≡◌, ◌≢◌, ◌≤◌, None, length}
use Rattle.halo_records.specs.Records.{records_of}
use Rattle.halo_table.specs.Faults.{NoFault}
use Rattle.halo_table.specs.Grouping.{tables_of}
use Rattle.halo_table.specs.declared.held.TheConstants.{LONGEST_FILE}
use Rattle.halo_contract.specs.PlainContract.{PlainContract}
use Rattle.halo_parse.specs.Faults.{WritesContract}
use Rattle.halo_sample.specs.Sample.{sample_contract, sample_tables}
use Rattle.halo_sample.specs.declared.contract.TheConstants.{LIVES, PAYS}
use Rattle.halo_sampled.specs.DrawnTables.{drawn_tables}

-- the tables file has no fault, and holds the tables that are drawn
abbrev pub TablesHaveNoFault : Type 0
TablesHaveNoFault = (number : ℕ)
    → NoFault (records_of (sample_tables number))
    × (tables_of (records_of (sample_tables number)) ≡ drawn_tables number)

-- a contract of so many lives and pays, with a premium and two reserves
pub record IsOfSample (contract : PlainContract) : Type 0 where
  pub lives : length contract.lives ≡ LIVES
  pub pays : length contract.pays ≡ PAYS
  pub premium : contract.premium ≢ None
  pub reserves : length contract.reserves ≡ 2

-- the contract file has no fault with the tables that are drawn, and writes such a contract
abbrev pub ContractHasNoFault : Type 0
ContractHasNoFault = (number : ℕ) → (contract : PlainContract)
    × WritesContract (drawn_tables number) (sample_contract number) contract
    × IsOfSample contract

-- the tables file has at most 2^24 bytes, and the contract file at most 2^16
abbrev pub FilesAreShort : Type 0
FilesAreShort = (number : ℕ)
    → (length (sample_tables number) ≤ LONGEST_FILE) × (length (sample_contract number) ≤ 65536)
