-- The places before this one are written.
use Rattle.std.proofs.Common.{◌≡◌, ℕ, ◌<◌, get_or, length, pos}
use Rattle.halo_poly.specs.Poly.{coefficient_at}
use Rattle.halo_poly.proofs.entries.write_each.Given as goal

abbrev pub invariant-loop-k : goal.invariant-loop-k
invariant-loop-k l =
    record {
      same : length l.values ≡ length l.fn.values;
      numbers : (k : ℕ) → k < l.k → coefficient_at l.values k ≡ pos (get_or l.row (get_or l.counts k 0) 0);
    }
