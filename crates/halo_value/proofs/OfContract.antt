-- What a valid contract says of its lives, its pays and its reserves.
use Rattle.std.proofs.Common.{◌≡◌, ℕ, zero, suc, ◌+◌, ◌<◌, ◌≤◌, Bool, true, List, []}
use Rattle.std.proofs.Common.{◌∷◌, Option, Some, length, refl, ap, ◌∙◌, sym, subst, arith}
use Rattle.std.specs.Prelude.{All, slice_get}
use Rattle.std.specs.List.{AllZip, sum_by}
use Rattle.std.proofs.lemmas.List.{length-map}
use Rattle.std.proofs.lemmas.List.Elements.{All-map}
use Rattle.std.proofs.lemmas.List.Sums.{sum_by-cons}
use Rattle.halo_sums.specs.Sums.{sum_over}
use Rattle.halo_premium.specs.declared.TheConstants.{GREATEST_AMOUNT}
use Rattle.halo_status.specs.Pay.{PlainPay}
use Rattle.halo_table.specs.DecrementTable.{HasRow, TableFile, survivors_at}
use Rattle.halo_table.specs.Sound.{IsSound}
use Rattle.halo_table.specs.declared.lives.Life.{Life}
use Rattle.halo_contract.specs.PlainContract.{PlainContract}
use Rattle.halo_contract.specs.ValidContract.{IsValidContract}
use Rattle.halo_contract.specs.declared.contract.LifeLine.{LifeLine}
use Rattle.halo_contract.specs.declared.contract.ReserveLine.{ReserveLine}
use Rattle.halo_model.specs.Basis.{Basis}
use Rattle.halo_model.specs.ContractBasis.{basis_of, contract_basis}
use Rattle.halo_model.specs.Horizon.{life_at}
use Rattle.halo_model.specs.Life.{after_first}
use Rattle.halo_life.specs.PlainGroup.{PlainGroup}
use Rattle.halo_compile.proofs.Living.{row-survives}
use Rattle.halo_value.specs.ContractValues.{AreContractValues}
use Rattle.halo_value.specs.PayValues.{ArePremiumValues, AreValuesOf}
use Rattle.halo_value.specs.declared.pass.PayValues.{PayValues}
use Rattle.halo_value.specs.Reading.{CanBeRead}
use Rattle.halo_value.specs.Setting.{CanBeAsked, CanBeValued, declared, group_at_start}

-- a sum in the two ways in which it is written
sums-agree : {X : Type 0} (f : X → ℕ) (xs : List X) → sum_over xs f ≡ sum_by f xs
sums-agree f [] = refl
sums-agree f (x ∷ xs) = ap (λ n. f x + n) (sums-agree f xs) ∙ sym (sum_by-cons f x xs)

-- a life of a set whose lives have rows has survivors
survivor-at : (tables : TableFile) → IsSound tables → (T : ℕ) (S : ℕ → Bool) (lines : List LifeLine)
    → ((i : ℕ) (line : LifeLine) → slice_get lines i ≡ Some line → S i ≡ true
    → HasRow tables line.life.table (line.life.age + T))
    → (i : ℕ) → i < length lines → S i ≡ true
    → 0 < survivors_at tables (life_at (declared lines) i).table ((life_at (declared lines) i).age + T)
survivor-at tables sound T S [] rows i below alive = absurd (omega arith)
survivor-at tables sound T S (line ∷ lines) rows zero below alive =
    row-survives tables sound line.life.table (line.life.age + T) (rows 0 line refl alive)
survivor-at tables sound T S (line ∷ lines) rows (suc i) below alive =
    survivor-at tables sound T (after_first S) lines (λ j. rows (suc j)) i (omega (arith, below)) alive

module _ (tables : TableFile) (contract : PlainContract) (valid : IsValidContract tables contract) (n : ℕ)
    (count : length contract.lives ≡ n) where
  pub rows-at : (i : ℕ) → i < n
      → HasRow tables (life_at (declared contract.lives) i).table (life_at (declared contract.lives) i).age
  rows-at i below =
      All-map (λ (life : Life). HasRow tables life.table life.age) (λ (line : LifeLine). line.life) contract.lives
      valid.rows
      i (record { table = 0; age = 0 })
      (omega (arith, below, count, length-map contract.lives (λ (line : LifeLine). line.life)))

  pub pays-valued : All (CanBeValued n) contract.pays
  pays-valued k d within =
      let among = valid.pays k d within in
      record { valid = among.valid; named = λ i names. omega (arith, among.named i names, count) }

  pub premium-asked : CanBeAsked n contract.premium
  premium-asked = (length tables.causes, rw count at valid.premium)

  pub amounts-few : sum_over contract.pays (λ (pay : PlainPay). pay.amount) ≤ GREATEST_AMOUNT
  amounts-few = omega (arith, sums-agree (λ (pay : PlainPay). pay.amount) contract.pays, valid.amounts)

  module _ (g : PlainGroup) (same : g ≡ group_at_start tables contract) where
    pub reserves-read : IsSound g.file → All (CanBeRead n g) contract.reserves
    reserves-read sound k d within =
        let reserve = valid.reserves k d within in
        let tables_sound : IsSound tables = subst (λ (group : PlainGroup). IsSound group.file) same sound in
        record {
          time_in = reserve.time_in;
          alive = λ i below alive. rw same
              (survivor-at tables tables_sound _ _ contract.lives reserve.alive i (omega (arith, below, count)) alive);
        }

    pub basis-is : basis_of g.file contract.interest g.lives g.ties ≡ contract_basis tables contract
    basis-is = rw same refl

  -- the values that were told are those of the contract
  pub values-are : (b : Basis) → b ≡ contract_basis tables contract → (pays : List PlainPay) → pays ≡ contract.pays
      → (reserves : List ReserveLine) (told values : List PayValues) (due : Option PayValues) → values ≡ told
      → AllZip (AreValuesOf b reserves) pays told → ArePremiumValues b reserves contract.premium due
      → AreContractValues (contract_basis tables contract) pays contract.premium reserves values due
  values-are b basis pays listed reserves told values due same of_pays of_premium =
      let of_contract : AllZip (AreValuesOf (contract_basis tables contract) reserves) pays told =
      subst (λ (basis : Basis). AllZip (AreValuesOf basis reserves) pays told) basis of_pays in
      record {
        last = refl;
        amounts = rw listed amounts-few;
        of_pays = subst (AllZip (AreValuesOf (contract_basis tables contract) reserves) pays) (sym same) of_contract;
        of_premium = subst (λ (basis : Basis). ArePremiumValues basis reserves contract.premium due) basis of_premium;
      }
