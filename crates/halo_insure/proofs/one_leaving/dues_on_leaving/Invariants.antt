use Rattle.std.proofs.Common.{◌+◌, ◌-◌, ◌*◌, ◌^◌, ◌≤◌}
use Rattle.halo_compile.specs.NamedSets.{named_of_task}
use Rattle.halo_along.specs.OfTask.{tree_task_of}
use Rattle.halo_along.specs.Years.{IsDiscount}
use Rattle.halo_insure.specs.OneLeaving.{HoldLeavings}
use Rattle.halo_insure.proofs.one_leaving.dues_on_leaving.Given as goal

abbrev pub invariant-loop-year : goal.invariant-loop-year
invariant-loop-year g l = record {
  from : l.task.group.now.start ≤ l.year;
  few : l.year - l.task.group.now.start ≤ l.task.horizon - l.task.group.now.start;
  discount : IsDiscount (tree_task_of l.task) l.year l.discount;
  held : HoldLeavings l.task l.life l.year l.work;
  cost : l.steps ≤ l.fn.steps + (l.year - l.task.group.now.start) * (2 + 2 ^ named_of_task l.task);
}
