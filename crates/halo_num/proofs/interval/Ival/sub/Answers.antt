use Rattle.std.proofs.Common.{ap, rules, arith}
use Rattle.std.proofs.lemmas.Int.{ints}
use Rattle.halo_num.specs.Ends.{Ends}
use Rattle.halo_num.proofs.Enclosures.{encloses_sub}
use Rattle.halo_num.proofs.Widths.{width_sub}
use Rattle.halo_num.proofs.interval.Ival.sub.Goals as goal

pub invariant_of-result : goal.invariant_of-result
invariant_of-result c =
    let e = ap (λ (v : Ends). v.lo) c.self.view_is
    in let f = ap (λ (v : Ends). v.hi) c.self.view_is
    in let k = ap (λ (v : Ends). v.lo) c.o.view_is
    in let m = ap (λ (v : Ends). v.hi) c.o.view_is
    in omega (arith, ints)

pub returns-clause-encloses : goal.returns-clause-encloses
returns-clause-encloses c = λ n m d p q. encloses_sub c.args.self c.args.o _ n m d (search rules) (search rules) p q

pub returns-clause-narrow : goal.returns-clause-narrow
returns-clause-narrow c = λ v w p q. width_sub c.args.self c.args.o _ v w (search rules) (search rules) p q
