use Rattle.halo_lex.proofs.Cutting.{cut_or_stuck}
use Rattle.halo_lex.proofs.laws.cut_or_stuck.Goals as goal

pub returns : goal.returns
returns c = cut_or_stuck
