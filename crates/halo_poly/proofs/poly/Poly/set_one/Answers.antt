-- The coefficient of the empty set counts in each value.
use Rattle.std.proofs.Common.{arith, rules}
use Rattle.std.proofs.lemmas.Nat.{pow_pos}
use Rattle.halo_poly.proofs.Values.{value_of_one}
use Rattle.halo_poly.proofs.poly.Poly.set_one.Goals as goal

pub returns-clause-values : goal.returns-clause-values
returns-clause-values g c =
    value_of_one g.row.M _ (omega (arith, c.self.invariant.sets.is, pow_pos c.self.invariant.sets.lives)) (search rules)
