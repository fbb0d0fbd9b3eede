use Rattle.halo_model.proofs.HorizonIsLeast.{horizon-is-least}
use Rattle.halo_model.proofs.laws.horizon_is_least.Goals as goal

pub returns : goal.returns
returns c = horizon-is-least
