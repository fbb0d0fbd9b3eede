use Rattle.halo_lex.proofs.Lexing.{cut_not_stuck}
use Rattle.halo_lex.proofs.laws.not_both.Goals as goal

pub returns : goal.returns
returns c = cut_not_stuck
