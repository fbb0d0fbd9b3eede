use Rattle.std.proofs.Common.{arith}
use Rattle.std.proofs.lemmas.List.{length-drop}
use Rattle.halo_io.proofs.Appended.{told-take, take-rest}
use Rattle.halo_io.proofs.writing.put_all.Goals as goal

pub writes-preserved : goal.writes-preserved
writes-preserved g c =
    let wrote = c.in_ok-done.ensures in
    let rest = take-rest c.writes.done c.args.bytes.now in
    let fits = rw (rest, length-drop c.writes.done c.args.bytes.now) at wrote.bound in
    let took = rw rest at wrote.bytes in
    (omega arith, omega (arith, wrote.later), told-take _ _ _ _ _ _ c.writes.invariant.2 took)
