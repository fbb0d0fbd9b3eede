use Rattle.halo_insure.proofs.Total.{sets-enclose-value}
use Rattle.halo_insure.proofs.laws.sets_enclose_the_value.Goals as goal

pub returns : goal.returns
returns c = sets-enclose-value
