use Rattle.halo_parse.proofs.laws.OneFault.{contract_is_one}
use Rattle.halo_parse.proofs.laws.contract_is_one.Goals as goal

pub returns : goal.returns
returns c = contract_is_one
