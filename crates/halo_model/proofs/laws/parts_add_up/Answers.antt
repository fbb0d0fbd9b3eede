use Rattle.halo_model.proofs.PartsAddUp.{parts-add-up}
use Rattle.halo_model.proofs.laws.parts_add_up.Goals as goal

pub returns : goal.returns
returns c = parts-add-up
