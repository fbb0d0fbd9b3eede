use Rattle.std.proofs.Common.{◌+◌, ◌-◌, ◌≤◌}
use Rattle.halo_along.specs.OfTask.{tree_task_of}
use Rattle.halo_along.specs.Years.{IsDiscount}
use Rattle.halo_insure.proofs.ending.discount_to.Given as goal

abbrev pub invariant-loop-year : goal.invariant-loop-year
invariant-loop-year g l = record {
  from : l.task.group.now.start ≤ l.year;
  to : l.year ≤ l.t;
  discount : IsDiscount (tree_task_of l.task) l.year l.discount;
  cost : l.steps ≤ l.fn.steps + (l.year - l.task.group.now.start);
}
