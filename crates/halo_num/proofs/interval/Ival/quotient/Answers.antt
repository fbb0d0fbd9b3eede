use Rattle.std.proofs.Common.{◌*ℤ◌, ap, rules, arith, pos}
use Rattle.std.proofs.lemmas.Int.{ints}
use Rattle.halo_num.specs.Ends.{Ends, fine}
use Rattle.halo_num.proofs.Quotients.{bounded_quotient, encloses_quotient, ordered_quotient}
use Rattle.halo_num.proofs.Widths.{width_quotient}
use Rattle.halo_num.proofs.interval.Ival.quotient.Goals as goal

pub invariant_of-result : goal.invariant_of-result
invariant_of-result c =
    let al = ap (λ (v : Ends). v.lo) c.self.view_is
    in let ah = ap (λ (v : Ends). v.hi) c.self.view_is
    in let bl = ap (λ (v : Ends). v.lo) c.o.view_is
    in let bh = ap (λ (v : Ends). v.hi) c.o.view_is
    in ordered_quotient _ _ (c.self.inside.lo *ℤ pos fine) (c.self.inside.hi *ℤ pos fine) c.o.inside.lo c.o.inside.hi
    (omega (arith, ints)) (omega (arith, ints)) (omega (arith, ints)) (omega (arith, ints)) (search rules)
    (search rules)

pub returns-clause-encloses : goal.returns-clause-encloses
returns-clause-encloses c = λ n m d e p q.
    let al = ap (λ (v : Ends). v.lo) c.self.view_is
    in let ah = ap (λ (v : Ends). v.hi) c.self.view_is
    in let bl = ap (λ (v : Ends). v.lo) c.o.view_is
    in let bh = ap (λ (v : Ends). v.hi) c.o.view_is
    in encloses_quotient c.args.self c.args.o _ n m d e c.requires.self_from (omega (arith, ints)) c.requires.o_from
    (omega (arith, ints)) (search rules) (search rules) (search rules) (search rules) p q

pub returns-clause-narrow : goal.returns-clause-narrow
returns-clause-narrow c = λ v w t x p q.
    let al = ap (λ (v : Ends). v.lo) c.self.view_is
    in let ah = ap (λ (v : Ends). v.hi) c.self.view_is
    in let bl = ap (λ (v : Ends). v.lo) c.o.view_is
    in let bh = ap (λ (v : Ends). v.hi) c.o.view_is
    in record {
      near = width_quotient _ _ c.args.self.lo c.args.self.hi c.args.o.lo c.args.o.hi v w t (search rules)
          (search rules) c.requires.self_from (omega (arith, ints)) c.requires.o_from (omega (arith, ints)) x
          (search rules) (search rules) p.near q.near;
    }

pub returns-clause-bound : goal.returns-clause-bound
returns-clause-bound c = λ t x.
    let al = ap (λ (v : Ends). v.lo) c.self.view_is
    in let ah = ap (λ (v : Ends). v.hi) c.self.view_is
    in let bl = ap (λ (v : Ends). v.lo) c.o.view_is
    in bounded_quotient _ c.args.self.hi c.args.o.lo t (search rules) (omega (arith, ints)) c.requires.o_from x
    (search rules)
