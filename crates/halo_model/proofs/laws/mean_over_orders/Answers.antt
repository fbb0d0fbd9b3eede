use Rattle.halo_model.proofs.OrderLaws.{mean-over-orders}
use Rattle.halo_model.proofs.laws.mean_over_orders.Goals as goal

pub returns : goal.returns
returns c = mean-over-orders
