use Rattle.halo_lex.proofs.Tiling.{cut_one}
use Rattle.halo_lex.proofs.laws.cut_is_one.Goals as goal

pub returns : goal.returns
returns c = cut_one
