-- Parts of a pay that are told one after the other.
use Rattle.std.specs.Prelude.{◌≡◌, ℕ, ◌++◌, All, List}
use Rattle.std.specs.List.{AllZip}
use Rattle.halo_status.specs.Pay.{PlainPay}
use Rattle.halo_model.specs.Basis.{Basis}
use Rattle.halo_model.specs.PayPart.{PayPart}
use Rattle.halo_compile.specs.declared.task.Task.{Task}
use Rattle.halo_value.specs.declared.pays.Setting.{Setting}
use Rattle.halo_value.specs.declared.pass.TheConstants.{ALL_LIVES}
use Rattle.halo_lines.specs.Parts.{IsPrintablePart, TellsPart}
use Rattle.halo_lines.specs.declared.parts.Part.{Part}

-- the parts before are told with some more behind them, and all can be printed if those before can
pub record AddsParts (n : ℕ) (b : Basis) (pay : PlainPay) (more : List PayPart)
    (before after : List Part) : Type 0 where
  pub tells : (parts : List PayPart) → AllZip (TellsPart b pay) parts before
      → AllZip (TellsPart b pay) (parts ++ more) after
  pub printable : All (IsPrintablePart n) before → All (IsPrintablePart n) after

-- a task asks for values at the start, with all lives alive
pub record IsAtStart {n m : ℕ} (task : Task n m) : Type 0 where
  pub start : task.group.now.start ≡ 0
  pub alive : task.group.now.alive ≡ ALL_LIVES

-- and so does a setting
pub record IsSettingAtStart {n : ℕ} (setting : Setting n) : Type 0 where
  pub start : setting.group.now.start ≡ 0
  pub alive : setting.group.now.alive ≡ ALL_LIVES
