use Rattle.halo_insure.proofs.Horizon.{nothing-is-due-after}
use Rattle.halo_insure.proofs.Signs.{set-value-is-worth}
use Rattle.halo_insure.proofs.laws.set_values_by_signs.Goals as goal

pub returns-clause-worth : goal.returns-clause-worth
returns-clause-worth c = set-value-is-worth

pub returns-clause-horizon : goal.returns-clause-horizon
returns-clause-horizon c = nothing-is-due-after
