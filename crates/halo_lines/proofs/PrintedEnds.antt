-- The ends of an interval that is printed fit a report.
use Rattle.std.proofs.Common.{◌*◌, pos, ◌≤ℤ◌, arith}
use Rattle.std.specs.Prelude.{neg_ℤ}
use Rattle.std.proofs.lemmas.Int.{ints}
use Rattle.halo_num.specs.Ends.{Ends, IsWithin, printed}
use Rattle.halo_num.specs.Rounding.{IsCeiling, IsFloor}
use Rattle.halo_num.specs.declared.limits.TheConstants.{GREATEST_END}
use Rattle.halo_num.specs.declared.nano.Nano.{Nano}
use Rattle.halo_lines.specs.Printable.{IsPrintable}

-- an interval with its ends in order, at most twice as large as those that are added
pub printed-fit : (i : Ends) (ends : Nano) → i.lo ≤ℤ i.hi
    → IsWithin i (neg_ℤ (pos (2 * GREATEST_END))) (pos (2 * GREATEST_END))
    → IsFloor ends.lo i.lo (pos printed) → IsCeiling ends.hi i.hi (pos printed) → IsPrintable ends
printed-fit i ends order within low high = record {
  lo = record {
    low = omega (arith, ints, low.reached, low.nearest, within.low);
    high = omega (arith, ints, low.reached, low.nearest, within.high, order);
  };
  hi = record {
    low = omega (arith, ints, high.reached, high.nearest, within.low, order);
    high = omega (arith, ints, high.reached, high.nearest, within.high);
  };
}
