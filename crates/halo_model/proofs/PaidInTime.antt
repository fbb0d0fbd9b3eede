-- The horizons of a contract come by the last time of its basis.
use Rattle.std.proofs.Common.{ℕ, zero, suc, ◌≤◌, arith, List, [], ◌∷◌, map, length, Option, Some, None, subst}
use Rattle.std.specs.Prelude.{All, IfSome}
use Rattle.std.specs.Option.{option_map}
use Rattle.std.proofs.lemmas.List.Elements.{All-get_or, All-head, All-tail, All-weaker}
use Rattle.halo_status.specs.Pay.{PlainPay}
use Rattle.halo_status.specs.ValidPay.{IsValidPay}
use Rattle.halo_table.specs.DecrementTable.{HasRow, TableFile, empty_table, table_of}
use Rattle.halo_table.specs.Sound.{IsSound, IsSoundTable}
use Rattle.halo_contract.specs.PlainContract.{PlainContract}
use Rattle.halo_contract.specs.Premium.{premium_pay}
use Rattle.halo_contract.specs.ValidContract.{IsValidAmong, IsValidContract, IsValidPremium}
use Rattle.halo_contract.specs.declared.contract.LifeLine.{LifeLine}
use Rattle.halo_model.specs.ContractBasis.{contract_basis}
use Rattle.halo_model.specs.FromTables.{life_of, lives_of}
use Rattle.halo_model.specs.Horizon.{years_left_of}
use Rattle.halo_model.specs.LastTime.{ContractsArePaidInTime, IsPaidBy, PremiumIsPaidBy}
use Rattle.halo_model.proofs.HorizonIsLeast.{horizon-is-least}
use Rattle.halo_model.proofs.StartAndEnd.{term-length}

module _ (tables : TableFile) (sound : IsSound tables) where
  -- a table ends by the age 150
  few-years : (table age : ℕ) → HasRow tables table age → (life_of tables table age).years_left ≤ 200
  few-years table age row =
      let is_sound : IsSoundTable (length tables.causes) (table_of tables table) =
      All-get_or (IsSoundTable (length tables.causes)) tables.tables table empty_table row.table_in sound.tables in
      omega (arith, is_sound.ages)

  each-ends : (lives : List LifeLine) → All (λ line. HasRow tables line.life.table line.life.age) lives
      → (i : ℕ) → years_left_of (lives_of tables (map (λ line. line.life) lives)) i ≤ 200
  each-ends [] rows i = omega arith
  each-ends (line ∷ lives) rows zero = few-years line.life.table line.life.age
      (All-head (λ line. HasRow tables line.life.table line.life.age) line lives rows)
  each-ends (line ∷ lives) rows (suc i) =
      each-ends lives (All-tail (λ line. HasRow tables line.life.table line.life.age) line lives rows) i

  module _ (contract : PlainContract) (valid : IsValidContract tables contract) where
    paid : (pay : PlainPay) → IsValidPay pay → IsPaidBy 200 (contract_basis tables contract).lives pay
    paid pay is = record {
      valid = is;
      ends = (horizon-is-least (contract_basis tables contract).lives pay.body 200).1 (record {
        one = omega arith;
        each_life = λ i named. each-ends contract.lives valid.rows i;
        each_term = λ n named. (term-length pay.body is.lengths n named).1;
      });
    }

    premium-paid : (premium : Option PlainPay)
        → IfSome premium (IsValidPremium (length contract.lives) (length tables.causes))
        → PremiumIsPaidBy 200 (contract_basis tables contract).lives (option_map (λ pay. pay.body) premium)
    premium-paid None is = tt
    premium-paid (Some pay) is = paid (premium_pay pay.body) (subst IsValidPay is.level is.among.valid)

pub contracts-are-paid-in-time : ContractsArePaidInTime
contracts-are-paid-in-time tables sound contract valid = record {
  pays = All-weaker (IsValidAmong (length contract.lives) (length tables.causes))
      (IsPaidBy 200 (contract_basis tables contract).lives)
      (λ pay is. paid tables sound contract valid pay is.valid) contract.pays valid.pays;
  premium = premium-paid tables sound contract valid contract.premium valid.premium;
}
