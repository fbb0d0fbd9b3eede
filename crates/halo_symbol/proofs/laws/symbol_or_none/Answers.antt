use Rattle.halo_symbol.proofs.WordChoices.{symbol_or_none}
use Rattle.halo_symbol.proofs.laws.symbol_or_none.Goals as goal

pub returns : goal.returns
returns c = symbol_or_none
