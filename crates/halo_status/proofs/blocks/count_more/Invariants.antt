-- The counts before this place have the member, and those from here on are as they were.
use Rattle.std.proofs.Common.{◌≡◌, ℕ, ◌<◌, ◌≤◌, get_or, length, bit_and, bit_or}
use Rattle.halo_status.specs.Blocks.{fewer_at}
use Rattle.halo_status.proofs.blocks.count_more.Given as goal

abbrev pub invariant-loop-k : goal.invariant-loop-k
invariant-loop-k l =
    record {
      same : length l.counts ≡ length l.fn.counts;
      fewer : l.fewer ≡ fewer_at l.fn.counts l.k;
      passed : (k : ℕ)
          → k < l.k → get_or l.counts k 0 ≡ bit_or (get_or l.fn.counts k 0) (bit_and (fewer_at l.fn.counts k) l.member);
      left : (k : ℕ) → l.k ≤ k → get_or l.counts k 0 ≡ get_or l.fn.counts k 0;
    }
