use Rattle.std.proofs.Common.{nat_lt}
use Rattle.halo_life.specs.PlainGroup.{survivors_in}
use Rattle.halo_life.proofs.Rows.{AreRows}
use Rattle.halo_life.proofs.group.Group.with_row.Given as goal

abbrev pub invariant-loop-i : goal.invariant-loop-i
invariant-loop-i g l = AreRows (λ k. nat_lt 0 (survivors_in l.self l.t k)) l.i l.alive
