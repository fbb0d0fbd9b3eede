use Rattle.halo_model.proofs.OrderLaws.{orders-counted}
use Rattle.halo_model.proofs.laws.orders_are_counted.Goals as goal

pub returns : goal.returns
returns c = orders-counted
