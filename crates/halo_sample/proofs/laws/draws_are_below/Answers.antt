use Rattle.halo_sample.proofs.SampleTables.{drawn-below}
use Rattle.halo_sample.proofs.laws.draws_are_below.Goals as goal

pub returns : goal.returns
returns c = drawn-below
