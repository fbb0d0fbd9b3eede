use Rattle.halo_top.proofs.SomeAnswer.{answer-exists}
use Rattle.halo_top.proofs.laws.answer_exists.Goals as goal

pub returns : goal.returns
returns c = answer-exists
