use Rattle.std.proofs.Common.{ap, rules, ◌*ℤ◌, arith}
use Rattle.std.proofs.lemmas.Int.{ints}
use Rattle.halo_num.specs.Ends.{Ends}
use Rattle.halo_num.proofs.Multiples.{encloses_scale, least_most}
use Rattle.halo_num.proofs.Widths.{width_scale}
use Rattle.halo_num.proofs.interval.Ival.scale.Goals as goal

pub invariant_of-result : goal.invariant_of-result
invariant_of-result c =
    least_most _ _ (c.self.inside.lo *ℤ c.args.k) (c.self.inside.hi *ℤ c.args.k) (search rules) (search rules)

pub returns-clause-encloses : goal.returns-clause-encloses
returns-clause-encloses c = λ n d p. encloses_scale c.args.self _ c.args.k n d (search rules) (search rules) p

pub returns-clause-narrow : goal.returns-clause-narrow
returns-clause-narrow c = λ w m p q.
    let e = ap (λ (v : Ends). v.lo) c.self.view_is
    in let f = ap (λ (v : Ends). v.hi) c.self.view_is
    in width_scale c.args.self _ c.args.k w m (search rules) (search rules) (omega (arith, ints)) p q
