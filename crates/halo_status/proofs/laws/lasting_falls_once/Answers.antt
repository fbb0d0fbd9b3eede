use Rattle.halo_status.proofs.Lasting.{falls_once}
use Rattle.halo_status.proofs.laws.lasting_falls_once.Goals as goal

pub returns : goal.returns
returns c = falls_once
