use Rattle.halo_poly.proofs.SymmetricSums.{symmetric-counts}
use Rattle.halo_poly.proofs.Picked.{at-least-is-sum, exactly-is-sum}
use Rattle.halo_poly.proofs.laws.symmetric_statuses.Goals as goal

pub returns-clause-counts : goal.returns-clause-counts
returns-clause-counts c = symmetric-counts

pub returns-clause-exactly : goal.returns-clause-exactly
returns-clause-exactly c = exactly-is-sum

pub returns-clause-at_least : goal.returns-clause-at_least
returns-clause-at_least c = at-least-is-sum
