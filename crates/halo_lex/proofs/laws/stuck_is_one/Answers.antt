use Rattle.halo_lex.proofs.Lexing.{stuck_one}
use Rattle.halo_lex.proofs.laws.stuck_is_one.Goals as goal

pub returns : goal.returns
returns c = stuck_one
