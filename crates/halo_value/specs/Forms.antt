-- The compiled forms of the pays of a contract.
use Rattle.std.specs.Prelude.{◌≡◌, ℕ, ◌<◌, ◌≤◌, ◌++◌, ◌^◌, List, length}
use Rattle.std.specs.List.{AllZip}
use Rattle.std.specs.Option.{option_to_list}
use Rattle.halo_status.specs.Pay.{PlainPay}
use Rattle.halo_table.specs.DecrementTable.{HasRow, TableFile}
use Rattle.halo_table.specs.declared.lives.Life.{Life}
use Rattle.halo_contract.specs.PlainContract.{PlainContract}
use Rattle.halo_model.specs.ContractBasis.{contract_basis}
use Rattle.halo_model.specs.Horizon.{horizon, life_at}
use Rattle.halo_model.specs.Life.{PlainLife}
use Rattle.halo_compile.specs.Form.{IsForm}
use Rattle.halo_compile.specs.declared.form.Segment.{Segment}

-- the form of a pay on n lives, up to its horizon on them
abbrev pub IsFormOn : {m : ℕ} → ℕ → List PlainLife → PlainPay → List (Segment m) → Type 0
IsFormOn n lives pay form = IsForm pay n (horizon lives pay.body) form

-- all pays of a contract: those that it lists, in their order, and last that of its premium, where
-- there is one
abbrev pub pays_with_premium : PlainContract → List PlainPay
pays_with_premium contract = contract.pays ++ option_to_list contract.premium

-- each of all pays of a contract has its form
abbrev pub AreForms : {m : ℕ} → TableFile → PlainContract → List (List (Segment m)) → Type 0
AreForms tables contract forms =
    AllZip (IsFormOn (length contract.lives) (contract_basis tables contract).lives)
    (pays_with_premium contract) forms

-- lives that have m sets, 1 to 12 of them, each with a row at its age
pub record HaveSets (tables : TableFile) (lives : List Life) (m : ℕ) : Type 0 where
  pub sets : m ≡ 2 ^ length lives
  pub some : 1 ≤ length lives
  pub few : length lives ≤ 12
  pub rows : (i : ℕ) → i < length lives
      → HasRow tables (life_at lives i).table (life_at lives i).age
