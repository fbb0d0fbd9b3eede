-- The bit of a life is whole, and its coefficient is small.
use Rattle.std.proofs.Common.{arith, rules}
use Rattle.halo_poly.proofs.Masks.{life_few, whole}
use Rattle.halo_poly.proofs.Values.{value_of_life}
use Rattle.halo_poly.proofs.poly.Poly.set_life.Goals as goal

pub overflow_shl-life : goal.overflow_shl-life
overflow_shl-life g c = omega (arith, life_few g.row.M c.args.life c.self.invariant.sets c.requires)

pub returns-clause-values : goal.returns-clause-values
returns-clause-values g c =
    rw (whole c.args.life (life_few g.row.M c.args.life c.self.invariant.sets c.requires))
    (value_of_life g.row.M c.args.life _ c.requires (search rules))
