-- The places before this one hold their differences, and the others are as they were.
use Rattle.std.proofs.Common.{◌-ℤ◌}
use Rattle.halo_poly.specs.Poly.{coefficient_at}
use Rattle.halo_poly.proofs.Steps.{HasPassed}
use Rattle.halo_poly.proofs.entries.take_each.Given as goal

abbrev pub invariant-loop-k : goal.invariant-loop-k
invariant-loop-k l = HasPassed (λ k. coefficient_at l.fn.values k -ℤ coefficient_at l.others k) l.fn.values l.values l.k
