use Rattle.halo_lex.proofs.Splitting.{words_within}
use Rattle.halo_lex.proofs.laws.words_are_within.Goals as goal

pub returns : goal.returns
returns c = λ line words are. words_within line 0 words are
