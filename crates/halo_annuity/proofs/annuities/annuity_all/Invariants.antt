use Rattle.std.proofs.Common.{◌+◌, ◌*◌, ◌-◌, ◌^◌, ◌≤◌}
use Rattle.halo_annuity.specs.AtTime.{HoldAt}
use Rattle.halo_compile.specs.NamedSets.{named_of_task}
use Rattle.halo_annuity.proofs.annuities.annuity_all.Given as goal

abbrev pub invariant-loop-back : goal.invariant-loop-back
invariant-loop-back g l = record {
  values : HoldAt l.task (l.start + (l.years - l.back)) l.work;
  cost : l.steps ≤ l.initial.steps + 4 * 2 ^ named_of_task l.task * l.back;
}
