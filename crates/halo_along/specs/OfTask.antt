-- A task with its form is a tree task without it.
use Rattle.std.specs.Prelude.{ℕ}
use Rattle.halo_compile.specs.declared.task.Task.{Task}
use Rattle.halo_along.specs.declared.tree_task.TreeTask.{TreeTask}

-- what of a task is valued along the tree of its body: all but its form
abbrev pub tree_task_of : {n m : ℕ} → Task n m → TreeTask n
tree_task_of task = record {
  pay = task.pay;
  group = task.group;
  interest = task.interest;
  horizon = task.horizon;
}
