-- So many years back from the horizon, the lists hold the values of that time, and the reserves from then on are read.
use Rattle.std.proofs.Common.{◌≡◌, ◌-◌, length}
use Rattle.halo_value.specs.ByKind.{HoldOf}
use Rattle.halo_value.specs.Reading.{AreReadFrom}
use Rattle.halo_value.proofs.pass.pass.Given as goal

abbrev pub invariant-loop-back : goal.invariant-loop-back
invariant-loop-back g l = record {
  values : HoldOf l.task (l.horizon - l.back) l.work;
  room : length l.later.items ≡ length l.reserves;
  read : AreReadFrom l.task l.reserves (l.horizon - l.back) l.later.items;
}
