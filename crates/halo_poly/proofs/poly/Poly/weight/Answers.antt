-- There are at most as many coefficients as 12 lives have sets.
use Rattle.std.proofs.Common.{arith}
use Rattle.halo_poly.proofs.Masks.{few_sets}
use Rattle.halo_poly.proofs.poly.Poly.weight.Goals as goal

pub sum_sizes-requires-clause-few : goal.sum_sizes-requires-clause-few
sum_sizes-requires-clause-few g c =
    omega (arith, few_sets g.row.M c.self.invariant.sets, c.self.invariant.full, c.deref.ensures.len)
