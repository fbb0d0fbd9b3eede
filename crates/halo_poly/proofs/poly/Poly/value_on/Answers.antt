-- The masks within the set's are those of its subsets.
use Rattle.std.proofs.Common.{◌∙◌, arith, rules, w64}
use Rattle.std.proofs.lemmas.Int.{to_z-of_z}
use Rattle.halo_poly.proofs.Masks.{few_sets}
use Rattle.halo_poly.proofs.Within.{sum_within_set}
use Rattle.halo_poly.proofs.poly.Poly.value_on.Goals as goal

pub sum_within-requires-clause-few : goal.sum_within-requires-clause-few
sum_within-requires-clause-few g c =
    omega (arith, few_sets g.row.M c.self.invariant.sets, c.self.invariant.full, c.deref.ensures.len)

pub returns : goal.returns
returns g c =
    λ n e.
    to_z-of_z w64 c.sum_within.result (search rules)
    ∙ sum_within_set n _ c.args.self.now c.args.set c.sum_within.result (c.deref.ensures.value ∙ c.self.view_is)
    (omega (arith, e, c.self.invariant.full, c.deref.ensures.len)) c.sum_within.ensures
