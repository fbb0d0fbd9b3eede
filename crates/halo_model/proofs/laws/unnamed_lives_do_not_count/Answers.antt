use Rattle.halo_model.proofs.Unnamed.{unnamed-do-not-count}
use Rattle.halo_model.proofs.laws.unnamed_lives_do_not_count.Goals as goal

pub returns : goal.returns
returns c = unnamed-do-not-count
