use Rattle.halo_sampled.proofs.ShortFiles.{files-are-short}
use Rattle.halo_sampled.proofs.laws.files_are_short.Goals as goal

pub returns : goal.returns
returns c = files-are-short
