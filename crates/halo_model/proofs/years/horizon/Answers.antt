use Rattle.std.proofs.Common.{arith}
use Rattle.halo_model.specs.Horizon.{horizon}
use Rattle.halo_model.proofs.years.horizon.Goals as goal

pub returns-clause-years : goal.returns-clause-years
unfolding horizon
returns-clause-years c = omega (arith, c.max.ensures, c.longest.ensures.years)
