use Rattle.std.proofs.Common.{length, ◌-◌, ◌≤◌, take}
use Rattle.halo_io.specs.Told.{AppendsTold}
use Rattle.halo_io.proofs.writing.put_all.Given as goal

abbrev pub invariant-writes : goal.invariant-writes
invariant-writes g l = (l.done ≤ length l.bytes)
    × (g.K.Sink.faults l.initial.sink ≤ g.K.Sink.faults l.sink)
    × AppendsTold (g.K.Sink.taken l.initial.sink) (g.K.Sink.taken l.sink) (take l.done l.bytes)

abbrev pub decreases-writes : goal.decreases-writes
decreases-writes g l = length l.bytes - l.done
