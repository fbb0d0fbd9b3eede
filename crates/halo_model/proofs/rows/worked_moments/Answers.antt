use Rattle.halo_model.proofs.WorkedMoments.{moment_rows}
use Rattle.halo_model.proofs.rows.worked_moments.Goals as goal

pub returns : goal.returns
returns c = moment_rows
