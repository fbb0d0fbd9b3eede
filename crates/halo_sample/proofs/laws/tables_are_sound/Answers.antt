use Rattle.halo_sample.proofs.SampleTables.{tables-are-sound}
use Rattle.halo_sample.proofs.laws.tables_are_sound.Goals as goal

pub returns : goal.returns
returns c = tables-are-sound
