use Rattle.halo_model.proofs.WorkedOrders.{order_rows}
use Rattle.halo_model.proofs.rows.worked_orders.Goals as goal

pub returns : goal.returns
returns c = order_rows
