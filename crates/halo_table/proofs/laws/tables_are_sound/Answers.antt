use Rattle.halo_table.proofs.Soundness.{sound_of_fine}
use Rattle.halo_table.proofs.laws.tables_are_sound.Goals as goal

pub returns : goal.returns
returns c = sound_of_fine
