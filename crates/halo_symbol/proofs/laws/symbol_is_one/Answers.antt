use Rattle.halo_symbol.proofs.Words.{symbol_unique}
use Rattle.halo_symbol.proofs.laws.symbol_is_one.Goals as goal

pub returns : goal.returns
returns c = symbol_unique
