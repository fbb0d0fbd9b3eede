-- The values of an annuity at a time that a pass back from the horizon comes by.
use Rattle.std.specs.Prelude.{ℕ, suc, ◌-◌, pos}
use Rattle.halo_sums.specs.Masks.{has_bit}
use Rattle.halo_num.specs.Ends.{Ends}
use Rattle.halo_num.specs.Enclosure.{Encloses}
use Rattle.halo_contract.specs.declared.ties.Ties.{Ties}
use Rattle.halo_model.specs.Value.{denominator, numerator}
use Rattle.halo_life.specs.Lists.{Lists}
use Rattle.halo_compile.specs.declared.task.Task.{Task}
use Rattle.halo_annuity.specs.Bounds.{IsWithinCount}
use Rattle.halo_compile.specs.OfTask.{basis_of_task, pay_of_task}
use Rattle.halo_annuity.specs.OfTask.{last_of_task}
use Rattle.halo_annuity.specs.Worth.{HoldValues}

-- the lists hold for each set of named lives what the annuity valued at t pays, whatever the time
-- of the task's group: an annuity-due from t on, an annuity-immediate after t
abbrev pub HoldAt : {n m : ℕ} → Task n m → ℕ → Lists → Type 0
HoldAt {n} task t lists = (ties : Ties) →
    let years = suc (last_of_task task) - t in
    HoldValues (basis_of_task task ties) (pay_of_task task) t n t years lists

-- i encloses the value at time t of the annuity of 1 of a task with the lives of a set alive, and
-- is no wider than its count
pub record EnclosesAnnuity {n m : ℕ} (task : Task n m) (t alive : ℕ) (i : Ends) : Type 0 where
  pub encloses : (ties : Ties) →
      let b = basis_of_task task ties in
      let living = has_bit alive in
      Encloses i (pos (numerator b (pay_of_task task) t living)) (denominator b t living)
  pub narrow : IsWithinCount task i
