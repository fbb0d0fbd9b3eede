use Rattle.halo_model.proofs.Weights.{weights-add}
use Rattle.halo_model.proofs.laws.weights_add_up.Goals as goal

pub returns : goal.returns
returns c = weights-add
