use Rattle.halo_sums.proofs.Coefficients.{coefficients-add, coefficients-unique}
use Rattle.halo_sums.proofs.laws.inclusion_and_exclusion.Goals as goal

pub returns-clause-add_up : goal.returns-clause-add_up
returns-clause-add_up c = coefficients-add

pub returns-clause-unique : goal.returns-clause-unique
returns-clause-unique c = coefficients-unique
