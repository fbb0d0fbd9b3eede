use Rattle.std.proofs.Common.{◌+◌, ◌*◌, ◌-◌, ◌≤◌}
use Rattle.halo_insure.specs.Events.{events_of}
use Rattle.halo_insure.specs.OfTask.{HoldDuesOn, products_of_year}
use Rattle.halo_insure.proofs.pass.pass.Given as goal

abbrev pub invariant-loop-back : goal.invariant-loop-back
invariant-loop-back g l = record {
  values : HoldDuesOn l.task (events_of l.events) (l.start + (l.years - l.back)) l.work;
  cost : l.steps ≤ l.initial.steps + products_of_year l.task * l.back;
}
