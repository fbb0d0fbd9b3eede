-- The reserves before this place are read from the first time on, and those at or after it from the
-- time after the last one.
use Rattle.std.proofs.Common.{◌≡◌, ℕ, suc, ◌<◌, ◌≤◌, length}
use Rattle.halo_sums.specs.Masks.{has_bit}
use Rattle.halo_life.specs.Lists.{entry}
use Rattle.halo_value.specs.ByKind.{EnclosesTask}
use Rattle.halo_value.specs.Reading.{AreReadFrom, reserve_at}
use Rattle.halo_value.proofs.reading.read.Given as goal

abbrev pub invariant-loop-place : goal.invariant-loop-place
invariant-loop-place g l = record {
  room : length l.values ≡ length l.reserves;
  later : AreReadFrom l.task l.reserves (suc l.to) l.fn.values → AreReadFrom l.task l.reserves (suc l.to) l.values;
  read : AreReadFrom l.task l.reserves (suc l.to) l.fn.values → (k : ℕ) → k < l.place
      → let reserve = reserve_at l.reserves k in
      l.from ≤ reserve.time → EnclosesTask l.task reserve.time (has_bit reserve.alive) (entry l.values k);
}
