-- The value of the coefficients that are written back.
use Rattle.std.proofs.Common.{◌≡◌, arith, ◌∙◌, length}
use Rattle.halo_poly.proofs.Transforms.{written}
use Rattle.halo_poly.proofs.Values.{value_of_difference}
use Rattle.halo_poly.proofs.poly.Poly.sub.Goals as goal

pub returns-clause-values : goal.returns-clause-values
returns-clause-values g c =
    let room : length c.take_each.new.values ≡ c.self.inside.coefficients.len = omega arith in
    rw (written c.self.inside.coefficients.len c.take_each.new.values c.self.inside.coefficients.items room)
    (value_of_difference c.args.self.now c.args.o.now _ _ c.take_each.new.values
    (c.deref_mut.ensures.value ∙ c.self.view_is) (c.deref.ensures.value ∙ c.o.view_is)
    c.take_each.ensures.differences)
