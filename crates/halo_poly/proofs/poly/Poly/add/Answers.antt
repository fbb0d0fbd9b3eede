-- The value of the coefficients that are written back.
use Rattle.std.proofs.Common.{◌≡◌, arith, ◌∙◌, length}
use Rattle.halo_poly.proofs.Transforms.{written}
use Rattle.halo_poly.proofs.Values.{value_of_sum}
use Rattle.halo_poly.proofs.poly.Poly.add.Goals as goal

pub returns-clause-values : goal.returns-clause-values
returns-clause-values g c =
    let room : length c.add_each.new.values ≡ c.self.inside.coefficients.len = omega arith in
    rw (written c.self.inside.coefficients.len c.add_each.new.values c.self.inside.coefficients.items room)
    (value_of_sum c.args.self.now c.args.o.now _ _ c.add_each.new.values (c.deref_mut.ensures.value ∙ c.self.view_is)
    (c.deref.ensures.value ∙ c.o.view_is) c.add_each.ensures.sums)
