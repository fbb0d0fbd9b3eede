use Rattle.halo_status.proofs.Empty.{nobody_there}
use Rattle.halo_status.proofs.laws.nobody_there.Goals as goal

pub returns : goal.returns
returns c = nobody_there
