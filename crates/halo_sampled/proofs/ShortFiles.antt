-- Both files of a sample are short.
use Rattle.halo_sampled.specs.Laws.{FilesAreShort}
use Rattle.halo_sampled.proofs.ShortContract.{contract-is-short}
use Rattle.halo_sampled.proofs.ShortTables.{tables-short}

pub files-are-short : FilesAreShort
files-are-short number = (tables-short number, contract-is-short number)
