-- The places before this one are counted, and the others are as they were.
use Rattle.std.proofs.Common.{◌≡◌, ℕ, ◌+◌, ◌<◌, ◌≤◌, cond, get_or, length}
use Rattle.halo_poly.specs.Poly.{coefficient_at}
use Rattle.halo_poly.specs.Symmetric.{is_one}
use Rattle.halo_poly.proofs.entries.count_ones.Given as goal

abbrev pub invariant-loop-k : goal.invariant-loop-k
invariant-loop-k l =
    record {
      same : length l.counts ≡ length l.fn.counts;
      passed : (k : ℕ) → k < l.k
          → get_or l.counts k 0 ≡ get_or l.fn.counts k 0 + cond (is_one (coefficient_at l.values k)) 1 0;
      left : (k : ℕ) → l.k ≤ k → get_or l.counts k 0 ≡ get_or l.fn.counts k 0;
    }
