use Rattle.halo_table.proofs.FirstFault.{fault_or_none}
use Rattle.halo_table.proofs.laws.no_fault_or_first.Goals as goal

pub returns : goal.returns
returns c = fault_or_none
