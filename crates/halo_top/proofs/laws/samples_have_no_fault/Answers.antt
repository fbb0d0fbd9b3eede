use Rattle.halo_top.proofs.Samples.{samples-have-no-fault}
use Rattle.halo_top.proofs.laws.samples_have_no_fault.Goals as goal

pub returns : goal.returns
returns c = samples-have-no-fault
