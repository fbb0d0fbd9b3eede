use Rattle.halo_sampled.proofs.ContractOfSample.{contract-has-no-fault}
use Rattle.halo_sampled.proofs.laws.contract_has_no_fault.Goals as goal

pub returns : goal.returns
returns c = contract-has-no-fault
