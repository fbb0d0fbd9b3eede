-- So many years back from the horizon, the values are those of that time.
use Rattle.std.proofs.Common.{◌-◌}
use Rattle.halo_insure.specs.OfTask.{HoldDuesAt}
use Rattle.halo_tests.proofs.insurances.value_at_start.Given as goal

abbrev pub invariant-loop-passed : goal.invariant-loop-passed
invariant-loop-passed g l = HoldDuesAt l.task (l.task.horizon - l.passed) l.work
