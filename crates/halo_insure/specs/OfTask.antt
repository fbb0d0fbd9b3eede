-- The values of the sets of the lives that a task names.
use Rattle.std.specs.Prelude.{ℕ, ◌+◌, ◌*◌, ◌^◌}
use Rattle.halo_model.specs.Basis.{Basis}
use Rattle.halo_model.specs.SetValue.{SomeEvents, all_events}
use Rattle.halo_life.specs.Lists.{Lists}
use Rattle.halo_life.specs.YearOfSets.{products_of_leavings}
use Rattle.halo_compile.specs.NamedSets.{named_of_task}
use Rattle.halo_compile.specs.OfTask.{basis_of_task, pay_of_task}
use Rattle.halo_compile.specs.declared.task.Task.{Task}
use Rattle.halo_insure.specs.Total.{HoldDues}

-- the basis of a task, with the rule for ties of its group
abbrev pub insured_basis : {n m : ℕ} → Task n m → Basis
insured_basis task = basis_of_task task task.group.now.ties

-- the lists hold for each set of named lives what is due on some events from time t on, whatever
-- the time of the task's group
abbrev pub HoldDuesOn : {n m : ℕ} → Task n m → SomeEvents → ℕ → Lists → Type 0
HoldDuesOn {n} task events t lists =
    HoldDues (insured_basis task) (pay_of_task task) events n t lists

-- and on all events
abbrev pub HoldDuesAt : {n m : ℕ} → Task n m → ℕ → Lists → Type 0
HoldDuesAt task t lists = HoldDuesOn task all_events t lists

-- the most products of a year on all sets of the lives named
abbrev pub products_of_year : {n m : ℕ} → Task n m → ℕ
products_of_year task =
    products_of_leavings task.group.now.ties (named_of_task task) + 5 * 2 ^ named_of_task task
