use Rattle.halo_parse.proofs.ValidPays.{pays_are_valid}
use Rattle.halo_parse.proofs.laws.pays_are_valid.Goals as goal

pub returns : goal.returns
returns c = pays_are_valid
