-- The last time up to which payments are looked at does not matter, once nothing is paid after it.
use Rattle.std.specs.Prelude.{◌≡◌, ℕ, ◌*◌, ◌≤◌, All, Bool, IfSome, List, Option, pos, ◌*ℤ◌}
use Rattle.halo_status.specs.Pay.{PlainPay}
use Rattle.halo_status.specs.Tree.{Tree}
use Rattle.halo_status.specs.ValidPay.{IsValidPay}
use Rattle.halo_table.specs.DecrementTable.{TableFile}
use Rattle.halo_table.specs.Sound.{IsSound}
use Rattle.halo_contract.specs.PlainContract.{PlainContract}
use Rattle.halo_contract.specs.Premium.{premium_pay}
use Rattle.halo_contract.specs.ValidContract.{IsValidContract}
use Rattle.halo_model.specs.Basis.{Basis}
use Rattle.halo_model.specs.ContractBasis.{contract_basis, premium_status}
use Rattle.halo_model.specs.Horizon.{horizon}
use Rattle.halo_model.specs.Life.{PlainLife}
use Rattle.halo_model.specs.Premium.{premium_denominator, premium_numerator, reserve_denominator, reserve_numerator}
use Rattle.halo_model.specs.Value.{denominator, numerator}

-- a basis with a last time in place of its own
abbrev pub until : ℕ → Basis → Basis
until last b = record b { last_time = last }

-- a valid pay with its horizon by a time, after which nothing is paid
pub record IsPaidBy (last : ℕ) (lives : List PlainLife) (pay : PlainPay) : Type 0 where
  pub valid : IsValidPay pay
  pub ends : horizon lives pay.body ≤ last

-- what a premium of 1 pays, if there are premiums, is paid by a time
abbrev pub PremiumIsPaidBy : ℕ → List PlainLife → Option Tree → Type 0
PremiumIsPaidBy last lives premium = IfSome premium (λ s. IsPaidBy last lives (premium_pay s))

-- with any two last times by which a pay is paid, it is worth the same fraction
abbrev pub LastTimeDoesNotMatter : Type 0
LastTimeDoesNotMatter = (b : Basis) (last other : ℕ) (pay : PlainPay)
    → IsPaidBy last b.lives pay → IsPaidBy other b.lives pay → (T : ℕ) (S : ℕ → Bool)
    → numerator (until last b) pay T S * denominator (until other b) T S
    ≡ numerator (until other b) pay T S * denominator (until last b) T S

-- the premium is the same
abbrev pub LastTimeOfPremium : Type 0
LastTimeOfPremium = (b : Basis) (last other : ℕ) (pays : List PlainPay) (status : Tree)
    → All (IsPaidBy last b.lives) pays → All (IsPaidBy other b.lives) pays
    → IsPaidBy last b.lives (premium_pay status) → IsPaidBy other b.lives (premium_pay status)
    → premium_numerator (until last b) pays * premium_denominator (until other b) status
    ≡ premium_numerator (until other b) pays * premium_denominator (until last b) status

-- and so is each reserve
abbrev pub LastTimeOfReserve : Type 0
LastTimeOfReserve = (b : Basis) (last other : ℕ) (pays : List PlainPay) (premium : Option Tree)
    → All (IsPaidBy last b.lives) pays → All (IsPaidBy other b.lives) pays
    → PremiumIsPaidBy last b.lives premium → PremiumIsPaidBy other b.lives premium
    → (T : ℕ) (S : ℕ → Bool)
    → reserve_numerator (until last b) pays premium T S
    *ℤ pos (reserve_denominator (until other b) premium T S)
    ≡ reserve_numerator (until other b) pays premium T S
    *ℤ pos (reserve_denominator (until last b) premium T S)

-- each pay of a contract, and what its premium pays, is paid by the last time of its basis
pub record IsPaidInTime (tables : TableFile) (contract : PlainContract) : Type 0 where
  pub pays : All (IsPaidBy (contract_basis tables contract).last_time
      (contract_basis tables contract).lives) contract.pays
  pub premium : PremiumIsPaidBy (contract_basis tables contract).last_time
      (contract_basis tables contract).lives (premium_status contract)

-- so it is for each contract that can be valued: nothing is left out by its last time
abbrev pub ContractsArePaidInTime : Type 0
ContractsArePaidInTime = (tables : TableFile) → IsSound tables
    → (contract : PlainContract) → IsValidContract tables contract → IsPaidInTime tables contract
