use Rattle.halo_parse.proofs.ValidPays.{premiums_are_valid}
use Rattle.halo_parse.proofs.laws.premiums_are_valid.Goals as goal

pub returns : goal.returns
returns c = premiums_are_valid
