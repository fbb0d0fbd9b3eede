-- The sum over the masks before this one.
use Rattle.std.proofs.Common.{◌≡◌, ◌*◌, ◌^◌, ◌≤◌, unsigned_abs}
use Rattle.halo_sums.specs.Sums.{int_sum_over, numbers_from}
use Rattle.halo_poly.specs.Transform.{within}
use Rattle.halo_poly.proofs.entries.sum_within.Given as goal

abbrev pub invariant-loop-mask : goal.invariant-loop-mask
invariant-loop-mask l =
    record {
      sum : l.sum ≡ int_sum_over (numbers_from 0 l.mask) (within l.values l.set);
      bound : unsigned_abs l.sum ≤ l.mask * 10 ^ 15;
    }
