use Rattle.halo_table.proofs.FirstFault.{fine_or_fault}
use Rattle.halo_table.proofs.laws.no_fault_is_first.Goals as goal

pub returns : goal.returns
returns c = fine_or_fault
