-- A contract that a file writes is valid, and so it can be written.
use Rattle.std.proofs.Common.{◌<◌, ◌^◌, length}
use Rattle.std.proofs.lemmas.List.Elements.{All-weaker}
use Rattle.std.proofs.lemmas.Option.{IfSome_then}
use Rattle.halo_table.specs.DecrementTable.{HasRow, TableFile}
use Rattle.halo_contract.specs.PlainContract.{PlainContract}
use Rattle.halo_contract.specs.ValidContract.{IsValidContract, IsValidReserve}
use Rattle.halo_contract.specs.declared.contract.LifeLine.{LifeLine}
use Rattle.halo_contract.specs.declared.contract.ReserveLine.{ReserveLine}
use Rattle.halo_parse.proofs.ValidContracts.{contracts_are_valid}
use Rattle.halo_spell.specs.Spellable.{ContractsAreSpellable, IsSpellable}

module _ (tables : TableFile) (contract : PlainContract) where
  abbrev HasRowAtStart : LifeLine → Type 0
  HasRowAtStart declared = HasRow tables declared.life.table declared.life.age

  abbrev HasTable : LifeLine → Type 0
  HasTable declared = declared.life.table < length tables.tables

  abbrev IsForLives : ReserveLine → Type 0
  IsForLives reserve = reserve.alive < 2 ^ length contract.lives

  pub spellable : IsValidContract tables contract → IsSpellable tables contract
  spellable valid = record {
    tables_in = All-weaker HasRowAtStart HasTable (λ declared row. row.table_in) contract.lives valid.rows;
    pays = valid.pays;
    premium = IfSome_then contract.premium valid.premium (λ pay premium. premium.among);
    reserves = All-weaker (IsValidReserve tables contract.lives) IsForLives (λ reserve is. is.declared)
        contract.reserves valid.reserves;
  }

pub contracts_are_spellable : ContractsAreSpellable
contracts_are_spellable tables bytes contract writes =
    spellable tables contract (contracts_are_valid tables bytes contract writes)
