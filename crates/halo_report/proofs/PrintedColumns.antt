-- The text of columns tells what the columns are.
use Rattle.std.proofs.Common.{arith, ℤ, pos, negsuc}
use Rattle.std.proofs.lemmas.Int.{ints}
use Rattle.halo_num.specs.Ends.{printed}
use Rattle.halo_num.specs.Rounding.{IsCeiling, IsFloor}
use Rattle.halo_num.proofs.Rounded.{printed_encloses}
use Rattle.halo_num.proofs.Widths.{width_printed}
use Rattle.halo_report.specs.Laws.{ColumnsArePrintable, PrintedEntriesEnclose}
use Rattle.halo_report.specs.Printed.{ceiling_of, floor_of}

pub columns-are-printable : ColumnsArePrintable
columns-are-printable c set all = record {
  ages = λ x from to. record {
    age = omega (arith, all.ages);
    d = (all.d x from to).within;
    n = (all.n x from to).within;
    s = (all.s x from to).within;
    c = (all.c_all x from to).within;
    m = (all.m x from to).within;
    r = (all.r x from to).within;
  };
  causes = λ x from to. record {
    age = omega (arith, all.ages);
    causes = all.causes;
    c = λ j known. (all.c_by j known x from to).within;
    m = λ j known. (all.m_by j known x from to).within;
  };
}

is-floor : (z : ℤ) → IsFloor (floor_of z) z (pos printed)
is-floor (pos n) = record { reached = omega (arith, ints); nearest = omega (arith, ints) }
is-floor (negsuc n) = record { reached = omega (arith, ints); nearest = omega (arith, ints) }

is-ceiling : (z : ℤ) → IsCeiling (ceiling_of z) z (pos printed)
is-ceiling (pos n) = record { reached = omega (arith, ints); nearest = omega (arith, ints) }
is-ceiling (negsuc n) = record { reached = omega (arith, ints); nearest = omega (arith, ints) }

pub printed-entries-enclose : PrintedEntriesEnclose
printed-entries-enclose c entry w most i e = record {
  encloses = printed_encloses i (floor_of i.lo) (ceiling_of i.hi) (pos entry) _ (is-floor i.lo) (is-ceiling i.hi)
      e.encloses;
  narrow =
      let near = width_printed (floor_of i.lo) (ceiling_of i.hi) i.lo i.hi w (is-floor i.lo) (is-ceiling i.hi)
      e.narrow.near in
      omega (arith, ints, near);
}
