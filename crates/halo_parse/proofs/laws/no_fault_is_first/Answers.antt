use Rattle.halo_parse.proofs.laws.OneFault.{no_fault_is_first}
use Rattle.halo_parse.proofs.laws.no_fault_is_first.Goals as goal

pub returns : goal.returns
returns c = no_fault_is_first
