use Rattle.std.proofs.Common.{◌+◌, ◌-◌, ◌≤◌}
use Rattle.halo_along.specs.Years.{IsDiscount}
use Rattle.halo_along.proofs.ending.discount_to.Given as goal

abbrev pub invariant-loop-year : goal.invariant-loop-year
invariant-loop-year g l = record {
  from : l.along.group.now.start ≤ l.year;
  to : l.year ≤ l.t;
  discount : IsDiscount l.along l.year l.discount;
  cost : l.steps ≤ l.fn.steps + (l.year - l.along.group.now.start);
}
