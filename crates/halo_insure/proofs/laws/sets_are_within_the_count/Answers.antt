use Rattle.halo_insure.proofs.Counted.{sets-within-count}
use Rattle.halo_insure.proofs.laws.sets_are_within_the_count.Goals as goal

pub returns : goal.returns
returns c = sets-within-count
