-- The polynomials before this one are counted.
use Rattle.std.proofs.Common.{◌≡◌, ℕ, ◌≤◌, get_or, length, take}
use Rattle.halo_poly.specs.Poly.{EachOfSets, count_at}
use Rattle.halo_poly.specs.Symmetric.{count_on}
use Rattle.halo_poly.proofs.survivors.count_all.Given as goal

abbrev pub invariant-loop-i : goal.invariant-loop-i
invariant-loop-i g l =
    record {
      same : length l.counts ≡ length l.fn.counts;
      room : (k : ℕ) → get_or l.counts k 0 ≤ l.i;
      counts : EachOfSets g.row.M (λ s. count_at l.counts s ≡ count_on (take l.i l.list) s);
    }
