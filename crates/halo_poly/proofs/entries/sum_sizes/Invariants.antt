-- The sizes that were added and those that are left are all of them.
use Rattle.std.proofs.Common.{◌≡◌, ◌+◌, ◌*◌, ◌^◌, ◌≤◌, drop, unsigned_abs}
use Rattle.halo_sums.specs.Sums.{sum_over}
use Rattle.halo_poly.proofs.entries.sum_sizes.Given as goal

abbrev pub invariant-loop-value : goal.invariant-loop-value
invariant-loop-value l =
    record {
      sum : l.sum + sum_over (drop l.value-index l.values) unsigned_abs ≡ sum_over l.values unsigned_abs;
      bound : l.sum ≤ l.value-index * 10 ^ 15;
    }
