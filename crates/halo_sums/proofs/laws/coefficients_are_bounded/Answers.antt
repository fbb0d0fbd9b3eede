use Rattle.halo_sums.proofs.Bounds.{coefficients-bounded}
use Rattle.halo_sums.proofs.laws.coefficients_are_bounded.Goals as goal

pub returns : goal.returns
returns c = coefficients-bounded
