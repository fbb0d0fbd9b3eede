use Rattle.halo_symbol.proofs.WordChoices.{status_or_none}
use Rattle.halo_symbol.proofs.laws.status_or_none.Goals as goal

pub returns : goal.returns
returns c = status_or_none
