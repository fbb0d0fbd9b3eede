use Rattle.halo_model.proofs.Conditional.{reserve-is-conditional}
use Rattle.halo_model.proofs.laws.reserve_is_conditional.Goals as goal

pub returns : goal.returns
returns c = reserve-is-conditional
