-- What pays are valued with, and which can be.
use Rattle.std.specs.Prelude.{List, ℕ, IfSome, Option, map}
use Rattle.halo_status.specs.Naming.{NamesLivesBelow}
use Rattle.halo_status.specs.Pay.{PlainPay}
use Rattle.halo_status.specs.ValidPay.{IsValidPay}
use Rattle.halo_table.specs.DecrementTable.{TableFile}
use Rattle.halo_table.specs.declared.lives.Life.{Life}
use Rattle.halo_contract.specs.PlainContract.{PlainContract}
use Rattle.halo_contract.specs.ValidContract.{IsValidPremium}
use Rattle.halo_contract.specs.declared.contract.LifeLine.{LifeLine}
use Rattle.halo_model.specs.Basis.{Basis}
use Rattle.halo_model.specs.ContractBasis.{basis_of}
use Rattle.halo_life.specs.PlainGroup.{PlainGroup}
use Rattle.halo_value.specs.declared.pass.TheConstants.{ALL_LIVES}
use Rattle.halo_value.specs.declared.pays.Setting.{Setting}

-- the lives of some lines
abbrev pub declared : List LifeLine → List Life
declared lines = map (λ line. line.life) lines

-- the lives of a contract at the start, all of them alive, with its rule for ties
abbrev pub group_at_start : TableFile → PlainContract → PlainGroup
group_at_start tables contract = record {
  file = tables;
  lives = declared contract.lives;
  start = 0;
  alive = ALL_LIVES;
  ties = contract.ties;
}

-- the basis of a setting, with the rule for ties of its group
abbrev pub basis_of_setting : {n : ℕ} → Setting n → Basis
basis_of_setting setting =
    basis_of setting.group.now.file setting.interest.now
    setting.group.now.lives setting.group.now.ties

-- a valid pay that names none but so many lives
pub record CanBeValued (n : ℕ) (pay : PlainPay) : Type 0 where
  pub valid : IsValidPay pay
  pub named : NamesLivesBelow n pay.body

-- the pay of a premium, if there is one, is that of a valid premium
abbrev pub CanBeAsked : ℕ → Option PlainPay → Type 0
CanBeAsked n premium = (causes : ℕ) × IfSome premium (IsValidPremium n causes)
