use Rattle.halo_parse.proofs.laws.FileChoices.{contract_or_fault}
use Rattle.halo_parse.proofs.laws.contract_or_fault.Goals as goal

pub returns : goal.returns
returns c = contract_or_fault
