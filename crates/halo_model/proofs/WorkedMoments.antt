-- The worked second moments, by computation from the definitions.
use Rattle.std.proofs.Common.{refl}
use Rattle.halo_model.specs.Value.{denominator}
use Rattle.halo_model.specs.WorkedMoments.{MomentRows}

pub moment_rows : MomentRows
unfolding denominator
moment_rows = record { on_x = refl; endowment = refl; x_first = refl }
