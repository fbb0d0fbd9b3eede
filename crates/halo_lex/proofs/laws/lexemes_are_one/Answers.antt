use Rattle.halo_lex.proofs.Lexing.{told_by_texts}
use Rattle.halo_lex.proofs.laws.lexemes_are_one.Goals as goal

pub returns : goal.returns
returns c = told_by_texts
