use Rattle.halo_check.proofs.laws.DecidingChecks.{passes_or_fails}
use Rattle.halo_check.proofs.laws.passes_or_fails.Goals as goal

pub returns : goal.returns
returns c = passes_or_fails
