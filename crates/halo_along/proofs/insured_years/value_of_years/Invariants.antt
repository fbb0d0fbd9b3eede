use Rattle.std.proofs.Common.{◌+◌, ◌-◌, ◌*◌, ◌^◌, ◌≤◌}
use Rattle.halo_status.specs.Nodes.{nodes}
use Rattle.halo_status.specs.Pay.{pay_of}
use Rattle.halo_along.specs.Insured.{EnclosesInsuredYears}
use Rattle.halo_along.specs.Years.{EnclosesOnePaid, IsDiscount}
use Rattle.halo_along.proofs.insured_years.value_of_years.Given as goal

abbrev pub invariant-loop-year : goal.invariant-loop-year
invariant-loop-year g l = record {
  from : l.along.group.now.start ≤ l.year;
  to : l.year ≤ l.along.horizon;
  discount : IsDiscount l.along l.year l.discount;
  existing : EnclosesOnePaid l.along l.year l.existing;
  total : EnclosesInsuredYears l.along (l.year - l.along.group.now.start) l.total;
  cost : l.steps ≤ l.fn.steps
      + (l.year - l.along.group.now.start + 1) * (2 * (nodes (pay_of l.along.pay.now).body + 1) ^ 2 + 3);
}
