use Rattle.halo_status.proofs.Lasting.{stays_fallen}
use Rattle.halo_status.proofs.laws.lasting_stays_fallen.Goals as goal

pub returns : goal.returns
returns c = stays_fallen
