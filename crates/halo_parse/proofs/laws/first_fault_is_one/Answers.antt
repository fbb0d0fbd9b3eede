use Rattle.halo_parse.proofs.laws.OneFault.{first_fault_is_one}
use Rattle.halo_parse.proofs.laws.first_fault_is_one.Goals as goal

pub returns : goal.returns
returns c = first_fault_is_one
