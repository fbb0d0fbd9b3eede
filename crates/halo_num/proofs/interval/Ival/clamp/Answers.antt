use Rattle.std.proofs.Common.{ap, rules, arith}
use Rattle.std.proofs.lemmas.Int.{ints}
use Rattle.halo_num.specs.Ends.{Ends}
use Rattle.halo_num.proofs.Parts.{encloses_clamp, part_ordered}
use Rattle.halo_num.proofs.interval.Ival.clamp.Goals as goal

pub invariant_of-result : goal.invariant_of-result
invariant_of-result c =
    let e = ap (λ (v : Ends). v.lo) c.self.view_is
    in let f = ap (λ (v : Ends). v.hi) c.self.view_is
    in part_ordered c.self.inside.lo c.self.inside.hi c.args.low c.args.high _ _ (search rules) (search rules)
    (omega (arith, ints)) (omega (arith, ints)) (omega (arith, ints)) (omega (arith, ints))

pub returns-clause-encloses : goal.returns-clause-encloses
returns-clause-encloses c =
    λ n d p q s. encloses_clamp c.args.self _ c.args.low c.args.high n d (search rules) (search rules) p q s
