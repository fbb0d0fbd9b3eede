use Rattle.halo_model.proofs.Amounts.{values-scale}
use Rattle.halo_model.proofs.laws.values_scale.Goals as goal

pub returns : goal.returns
returns c = values-scale
