use Rattle.halo_table.proofs.FirstFault.{first_is_one}
use Rattle.halo_table.proofs.laws.first_fault_is_one.Goals as goal

pub returns : goal.returns
returns c = first_is_one
