-- Valid tasks: a pay with its form, its lives, its interest and its horizon.
use Rattle.std.specs.Prelude.{◌≡◌, ℕ, ◌^◌, ◌≤◌}
use Rattle.halo_status.specs.Naming.{NamesLivesBelow}
use Rattle.halo_status.specs.Pay.{pay_of}
use Rattle.halo_status.specs.ValidPay.{IsValidPay}
use Rattle.halo_interest.specs.declared.powers.TheConstants.{LAST_TIME}
use Rattle.halo_model.specs.FromTables.{lives_of}
use Rattle.halo_model.specs.Horizon.{horizon}
use Rattle.halo_compile.specs.Form.{IsForm}
use Rattle.halo_compile.specs.declared.task.Task.{Task}

-- a valid pay on the task's lives, with its horizon on them and the form that it has up to there
pub record IsTask {n m : ℕ} (task : Task n m) : Type 0 where
  pub valid : IsValidPay (pay_of task.pay.now)
  pub lives : NamesLivesBelow n (pay_of task.pay.now).body
  pub sets : m ≡ 2 ^ n
  pub horizon_is : task.horizon
      ≡ horizon (lives_of task.group.now.file task.group.now.lives) (pay_of task.pay.now).body
  pub horizon_in : task.horizon ≤ LAST_TIME
  pub form : IsForm (pay_of task.pay.now) n task.horizon task.form.now
