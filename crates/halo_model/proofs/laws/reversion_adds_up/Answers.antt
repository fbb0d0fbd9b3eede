use Rattle.halo_model.proofs.Reversion.{reversion-adds-up}
use Rattle.halo_model.proofs.laws.reversion_adds_up.Goals as goal

pub returns : goal.returns
returns c = reversion-adds-up
