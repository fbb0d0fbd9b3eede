use Rattle.halo_parse.proofs.ValidContracts.{contracts_are_valid}
use Rattle.halo_parse.proofs.laws.contracts_are_valid.Goals as goal

pub returns : goal.returns
returns c = contracts_are_valid
