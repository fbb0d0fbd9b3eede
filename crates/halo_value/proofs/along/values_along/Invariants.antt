-- The reserves so far have their values, each with the products of one.
use Rattle.std.proofs.Common.{◌+◌, ◌*◌, ◌≤◌, take}
use Rattle.halo_status.specs.Pay.{pay_of}
use Rattle.halo_along.specs.Along.{basis_of_tree_task, products_in_order}
use Rattle.halo_value.specs.PayValues.{AreLaterValues}
use Rattle.halo_value.proofs.along.values_along.Given as goal

abbrev pub invariant-loop-reserve : goal.invariant-loop-reserve
invariant-loop-reserve g l = record {
  later : AreLaterValues (basis_of_tree_task l.along l.along.group.now.ties) (pay_of l.along.pay.now)
      (take l.reserve-index l.reserves) l.later.items;
  cost : l.steps ≤ l.fn.steps + (l.reserve-index + 1) * products_in_order l.along;
}
