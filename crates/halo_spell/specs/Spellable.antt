-- What can be written.
use Rattle.std.specs.Prelude.{ℕ, ◌<◌, ◌^◌, List, All, IfSome, length}
use Rattle.halo_table.specs.DecrementTable.{TableFile}
use Rattle.halo_contract.specs.PlainContract.{PlainContract}
use Rattle.halo_contract.specs.ValidContract.{IsValidAmong}
use Rattle.halo_parse.specs.Faults.{WritesContract}

-- a contract of valid pays, whose lives have tables of the file, and whose reserves are for sets of
-- its lives
pub record IsSpellable (tables : TableFile) (c : PlainContract) : Type 0 where
  pub tables_in : All (λ declared. declared.life.table < length tables.tables) c.lives
  pub pays : All (IsValidAmong (length c.lives) (length tables.causes)) c.pays
  pub premium : IfSome c.premium (IsValidAmong (length c.lives) (length tables.causes))
  pub reserves : All (λ reserve. reserve.alive < 2 ^ length c.lives) c.reserves

-- a contract that a file writes can be written
abbrev pub ContractsAreSpellable : Type 0
ContractsAreSpellable = (tables : TableFile) (bytes : List ℕ) (contract : PlainContract)
    → WritesContract tables bytes contract → IsSpellable tables contract
