-- Worked numbers of orders, by computation from the definitions.
use Rattle.std.proofs.Common.{refl}
use Rattle.halo_model.specs.EvenTies.{first_leaving_evenly}
use Rattle.halo_model.specs.WorkedOrders.{OrderRows}

pub order_rows : OrderRows
unfolding first_leaving_evenly
order_rows = record {
  second_of_two = refl;
  first_of_two = refl;
  first_of_three = refl;
  some_of_two = refl;
  one_before = refl;
  mean_of_three = refl;
}
