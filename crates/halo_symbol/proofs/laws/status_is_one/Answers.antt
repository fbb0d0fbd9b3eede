use Rattle.halo_symbol.proofs.Words.{status_unique}
use Rattle.halo_symbol.proofs.laws.status_is_one.Goals as goal

pub returns : goal.returns
returns c = status_unique
