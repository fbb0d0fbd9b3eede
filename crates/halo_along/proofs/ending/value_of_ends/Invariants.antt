use Rattle.std.proofs.Common.{◌+◌, ◌-◌, ◌*◌, ◌^◌, ◌≤◌}
use Rattle.halo_status.specs.Nodes.{nodes}
use Rattle.halo_status.specs.Pay.{pay_of}
use Rattle.halo_along.specs.Contingent.{EnclosesEnds}
use Rattle.halo_along.specs.Years.{IsDiscount}
use Rattle.halo_along.proofs.ending.value_of_ends.Given as goal

abbrev pub invariant-loop-year : goal.invariant-loop-year
invariant-loop-year g l = record {
  from : l.along.group.now.start ≤ l.year;
  few : l.year - l.along.group.now.start ≤ l.along.horizon - l.along.group.now.start;
  discount : IsDiscount l.along l.year l.discount;
  total : EnclosesEnds l.along (l.year - l.along.group.now.start) l.total;
  cost : l.steps ≤ l.fn.steps
      + (l.year - l.along.group.now.start) * (4 * (nodes (pay_of l.along.pay.now).body + 1) ^ 2 + 3);
}
