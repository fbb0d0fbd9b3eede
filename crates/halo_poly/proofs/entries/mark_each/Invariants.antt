-- The places before this one are marked.
use Rattle.std.proofs.Common.{false, get_or}
use Rattle.halo_sums.specs.Sums.{indicator}
use Rattle.halo_poly.proofs.Steps.{HasPassed}
use Rattle.halo_poly.proofs.entries.mark_each.Given as goal

abbrev pub invariant-loop-k : goal.invariant-loop-k
invariant-loop-k l = HasPassed (λ k. indicator (get_or l.marked k false)) l.fn.values l.values l.k
