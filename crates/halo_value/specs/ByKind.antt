-- The values of all sets of named lives at a time, and the value of a pay, whatever its kind.
use Rattle.std.specs.Prelude.{ℕ, Bool}
use Rattle.halo_num.specs.Ends.{Ends}
use Rattle.halo_status.specs.Pay.{pay_of}
use Rattle.halo_status.specs.declared.pay.Kind.{Kind}
use Rattle.halo_status.specs.declared.pay.Kind.TheVariants.{Due, Immediate, Insurance}
use Rattle.halo_model.specs.Enclosed.{EnclosesOne}
use Rattle.halo_life.specs.Lists.{Lists}
use Rattle.halo_compile.specs.OfTask.{basis_of_task}
use Rattle.halo_compile.specs.declared.task.Task.{Task}
use Rattle.halo_annuity.specs.AtTime.{HoldAt}
use Rattle.halo_insure.specs.OfTask.{HoldDuesAt}

-- the lists hold for each set of named lives what a pay of some kind is worth at a time
abbrev pub HoldByKind : {n m : ℕ} → Kind → Task n m → ℕ → Lists → Type 0
HoldByKind Insurance task t lists = HoldDuesAt task t lists
HoldByKind Immediate task t lists = HoldAt task t lists
HoldByKind Due task t lists = HoldAt task t lists

-- and what the pay of a task is worth
abbrev pub HoldOf : {n m : ℕ} → Task n m → ℕ → Lists → Type 0
HoldOf task t lists = HoldByKind task.pay.now.kind task t lists

-- an interval encloses what the pay of a task is worth with amount 1 at a time with the lives of a
-- set alive, by the rule for ties of its group
abbrev pub EnclosesTask : {n m : ℕ} → Task n m → ℕ → (ℕ → Bool) → Ends → Type 0
EnclosesTask task t S value =
    EnclosesOne (basis_of_task task task.group.now.ties) (pay_of task.pay.now) t S value
