-- The places before this one are marked.
use Rattle.std.proofs.Common.{◌≡◌, ℕ, ◌<◌, false, get_or, length, nat_le}
use Rattle.halo_poly.proofs.entries.mark_at_least.Given as goal

abbrev pub invariant-loop-k : goal.invariant-loop-k
invariant-loop-k l =
    record {
      same : length l.marked ≡ length l.fn.marked;
      marks : (k : ℕ) → k < l.k → get_or l.marked k false ≡ nat_le l.least (get_or l.counts k 0);
    }
