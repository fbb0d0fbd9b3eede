use Rattle.halo_model.proofs.Backward.{annuity-by-sets}
use Rattle.halo_model.proofs.AfterHorizon.{nothing-after-horizon}
use Rattle.halo_model.proofs.laws.annuity_by_sets.Goals as goal

pub returns-clause-value : goal.returns-clause-value
returns-clause-value c = annuity-by-sets

pub returns-clause-no_more : goal.returns-clause-no_more
returns-clause-no_more c = nothing-after-horizon
