use Rattle.std.proofs.Common.{◌∷◌}
use Rattle.csv.specs.Records.{fields_of}
use Rattle.halo_table.proofs.Soundness.{sound_of_fine}
use Rattle.halo_table.proofs.reading.read_all.Goals as goal

pub of-requires : goal.of-requires
of-requires c =
    rw (c.in-Ok-read_causes.ensures, c.in_ok-tables.ensures.fine.1)
    (sound_of_fine (fields_of c.in_ok-header.header ∷ c.read_header.new.source)
    c.in_ok-tables.ensures.fine.0)
