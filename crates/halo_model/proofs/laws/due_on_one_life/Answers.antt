use Rattle.halo_model.proofs.DueOnOneLife.{due-on-one-life}
use Rattle.halo_model.proofs.laws.due_on_one_life.Goals as goal

pub returns : goal.returns
returns c = due-on-one-life
