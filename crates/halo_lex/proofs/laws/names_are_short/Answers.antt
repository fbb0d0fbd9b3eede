use Rattle.halo_lex.proofs.Lexing.{short_name}
use Rattle.halo_lex.proofs.laws.names_are_short.Goals as goal

pub returns : goal.returns
returns c = short_name
