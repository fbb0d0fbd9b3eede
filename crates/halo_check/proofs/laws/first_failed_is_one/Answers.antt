use Rattle.halo_check.proofs.laws.CheckOrder.{first_is_one}
use Rattle.halo_check.proofs.laws.first_failed_is_one.Goals as goal

pub returns : goal.returns
returns c = first_is_one
