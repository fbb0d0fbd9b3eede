use Rattle.halo_model.proofs.OwnRanks.{orders-give-own-ranks}
use Rattle.halo_model.proofs.laws.orders_give_own_ranks.Goals as goal

pub returns : goal.returns
returns c = orders-give-own-ranks
