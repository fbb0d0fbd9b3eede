use Rattle.halo_top.proofs.OneAnswer.{answer-is-one}
use Rattle.halo_top.proofs.laws.answer_is_one.Goals as goal

pub returns : goal.returns
returns c = answer-is-one
