-- The logarithm of the number of sets.
use Rattle.halo_poly.proofs.Masks.{lives_told}
use Rattle.halo_poly.proofs.poly.Poly.lives.Goals as goal

pub returns-clause-few : goal.returns-clause-few
returns-clause-few g c =
    (lives_told g.row.M c.ilog2.result c.requires c.ilog2.ensures.power_le c.ilog2.ensures.next_power_gt).0

pub returns-clause-sets : goal.returns-clause-sets
returns-clause-sets g c =
    (lives_told g.row.M c.ilog2.result c.requires c.ilog2.ensures.power_le c.ilog2.ensures.next_power_gt).1
