-- The denominators of values are at least 1, so that each value is a fraction.
use Rattle.std.specs.Prelude.{◌≡◌, ℕ, ◌+◌, ◌<◌, ◌≤◌, All, Bool, IfSome, List, Some, length, slice_get, true}
use Rattle.halo_sums.specs.Masks.{has_bit}
use Rattle.halo_status.specs.Exists.{exists}
use Rattle.halo_status.specs.Naming.{NamesLivesBelow}
use Rattle.halo_status.specs.Tree.{Tree}
use Rattle.halo_status.specs.View.{is_on}
use Rattle.halo_status.specs.declared.view.View.TheVariants.{Due}
use Rattle.halo_table.specs.DecrementTable.{TableFile}
use Rattle.halo_table.specs.Sound.{IsSound}
use Rattle.halo_contract.specs.PlainContract.{PlainContract}
use Rattle.halo_contract.specs.Premium.{all_lives}
use Rattle.halo_contract.specs.ValidContract.{IsValidContract}
use Rattle.halo_contract.specs.declared.contract.ReserveLine.{ReserveLine}
use Rattle.halo_model.specs.Basis.{Basis}
use Rattle.halo_model.specs.ContractBasis.{contract_basis, premium_status}
use Rattle.halo_model.specs.Life.{AreLives, PlainLife}
use Rattle.halo_model.specs.Premium.{premium_denominator, reserve_denominator}
use Rattle.halo_model.specs.Value.{denominator}

-- each of some lives that is in a set has a survivor at time T
abbrev pub HaveSurvivors : ℕ → (ℕ → Bool) → List PlainLife → Type 0
HaveSurvivors T S lives = (i : ℕ) (x : PlainLife)
    → slice_get lives i ≡ Some x → S i ≡ true → 1 ≤ x.survivors T

-- each year from T up to the last time has an interest: p + q is at least 1
abbrev pub HasInterestFrom : ℕ → Basis → Type 0
HasInterestFrom T b = (k : ℕ) → T ≤ k → k < b.last_time → 1 ≤ b.p k + b.q k

-- the denominator of the values at a time, where those who are alive then have survivors
abbrev pub DenominatorIsPositive : Type 0
DenominatorIsPositive = (b : Basis) (T : ℕ) (S : ℕ → Bool)
    → HaveSurvivors T S b.lives → HasInterestFrom T b → 1 ≤ denominator b T S

-- and that of a premium, whose status exists at the start: a premium of 1 is worth at least 1 then
abbrev pub PremiumIsWorthOne : Type 0
PremiumIsWorthOne = (b : Basis) → AreLives b.lives
    → (status : Tree) → NamesLivesBelow (length b.lives) status
    → exists all_lives (is_on Due 0) status ≡ true
    → denominator b 0 all_lives ≤ premium_denominator b status

-- the denominators of a premium of a contract: of the values at the start, and of the premium
pub record HasPositivePremium
    (tables : TableFile) (contract : PlainContract) (status : Tree) : Type 0 where
  pub worth_one : denominator (contract_basis tables contract) 0 all_lives
      ≤ premium_denominator (contract_basis tables contract) status
  pub of_premium : 1 ≤ premium_denominator (contract_basis tables contract) status

-- the denominators of a reserve of a contract: of the values at its time, and of the reserve
pub record HasPositiveReserve
    (tables : TableFile) (contract : PlainContract) (reserve : ReserveLine) : Type 0 where
  pub of_values : 1 ≤ denominator
      (contract_basis tables contract) reserve.time (has_bit reserve.alive)
  pub of_reserve : 1 ≤ reserve_denominator
      (contract_basis tables contract) (premium_status contract) reserve.time
      (has_bit reserve.alive)

-- all denominators of the values of a contract
pub record HasPositiveDenominators (tables : TableFile) (contract : PlainContract) : Type 0 where
  pub at_start : 1 ≤ denominator (contract_basis tables contract) 0 all_lives
  pub premium : IfSome (premium_status contract) (HasPositivePremium tables contract)
  pub reserves : All (HasPositiveReserve tables contract) contract.reserves

-- each contract that can be valued has such denominators
abbrev pub ContractsHavePositiveDenominators : Type 0
ContractsHavePositiveDenominators = (tables : TableFile) → IsSound tables
    → (contract : PlainContract) → IsValidContract tables contract
    → HasPositiveDenominators tables contract
