use Rattle.std.proofs.Common.{ap, rules, arith}
use Rattle.std.proofs.lemmas.Int.{ints}
use Rattle.halo_num.specs.Ends.{Ends}
use Rattle.halo_num.proofs.Divided.{divided-most, divided-near, encloses-divided, ordered-divided}
use Rattle.halo_num.proofs.interval.Ival.divide.Goals as goal

pub invariant_of-result : goal.invariant_of-result
invariant_of-result c =
    let low = ap (λ (v : Ends). v.lo) c.self.view_is in
    let high = ap (λ (v : Ends). v.hi) c.self.view_is in
    ordered-divided _ _ c.self.inside.lo c.self.inside.hi c.args.count c.requires.some
    (omega (arith, ints)) (search rules) (search rules)

pub returns-clause-encloses : goal.returns-clause-encloses
returns-clause-encloses c = λ n d h.
    let low = ap (λ (v : Ends). v.lo) c.self.view_is in
    let high = ap (λ (v : Ends). v.hi) c.self.view_is in
    encloses-divided c.args.self _ c.args.count n d c.requires.from (omega (arith, ints)) (search rules)
    (search rules) (search rules) (search rules) h

pub returns-clause-most : goal.returns-clause-most
returns-clause-most c = λ b h. divided-most _ c.args.self.lo c.args.count b c.requires.some (search rules) h

pub returns-clause-narrow : goal.returns-clause-narrow
returns-clause-narrow c = λ w h.
    let low = ap (λ (v : Ends). v.lo) c.self.view_is in
    let high = ap (λ (v : Ends). v.hi) c.self.view_is in
    record {
      near = divided-near _ _ c.args.self.lo c.args.self.hi c.args.count w (search rules) (search rules)
          c.requires.from (omega (arith, ints)) (search rules) (search rules) h.near;
    }
