use Rattle.halo_lex.proofs.Splitting.{words_one}
use Rattle.halo_lex.proofs.laws.words_are_one.Goals as goal

pub returns : goal.returns
returns c = λ line words others a b. words_one line 0 words others a b
