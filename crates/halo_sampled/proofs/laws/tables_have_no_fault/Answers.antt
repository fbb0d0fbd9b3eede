use Rattle.halo_sampled.proofs.FineRecords.{tables-have-no-fault}
use Rattle.halo_sampled.proofs.laws.tables_have_no_fault.Goals as goal

pub returns : goal.returns
returns c = tables-have-no-fault
