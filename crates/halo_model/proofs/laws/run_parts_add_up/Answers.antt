use Rattle.halo_model.proofs.RunParts.{run-parts-add-up}
use Rattle.halo_model.proofs.laws.run_parts_add_up.Goals as goal

pub returns : goal.returns
returns c = run-parts-add-up
