use Rattle.std.proofs.Common.{pos, ◌*ℤ◌, ap, rules, arith, lit<}
use Rattle.std.proofs.lemmas.Int.{ints}
use Rattle.halo_num.specs.Ends.{Ends, fine}
use Rattle.halo_num.proofs.Products.{encloses_mul, bounded_mul}
use Rattle.halo_num.proofs.Widths.{width_mul}
use Rattle.halo_num.proofs.Rounded.{ordered}
use Rattle.halo_sums.proofs.Integers.{mul_le_mul}
use Rattle.halo_num.proofs.interval.Ival.mul.Goals as goal

pub invariant_of-result : goal.invariant_of-result
invariant_of-result g c =
    let al = ap (λ (v : Ends). v.lo) c.self.view_is
    in let ah = ap (λ (v : Ends). v.hi) c.self.view_is
    in let bl = ap (λ (v : Ends). v.lo) c.o.view_is
    in let bh = ap (λ (v : Ends). v.hi) c.o.view_is
    in ordered _ _ (c.args.self.lo *ℤ c.args.o.lo) (c.args.self.hi *ℤ c.args.o.hi) fine (lit< tt) (search rules)
    (search rules) (mul_le_mul c.args.self.lo c.args.o.lo c.args.self.hi c.args.o.hi c.requires.self_from
    c.requires.o_from (omega (arith, ints)) (omega (arith, ints)))

pub returns-clause-encloses : goal.returns-clause-encloses
returns-clause-encloses g c = λ n m d e p q.
    let al = ap (λ (v : Ends). v.lo) c.self.view_is
    in let ah = ap (λ (v : Ends). v.hi) c.self.view_is
    in let bl = ap (λ (v : Ends). v.lo) c.o.view_is
    in let bh = ap (λ (v : Ends). v.hi) c.o.view_is
    in encloses_mul c.args.self c.args.o _ n m d e c.requires.self_from c.requires.o_from (omega (arith, ints))
    (omega (arith, ints)) (search rules) (search rules) (search rules) (search rules) p q

pub returns-clause-bound : goal.returns-clause-bound
returns-clause-bound g c = λ a b x y.
    let al = ap (λ (v : Ends). v.lo) c.self.view_is
    in let ah = ap (λ (v : Ends). v.hi) c.self.view_is
    in let bl = ap (λ (v : Ends). v.lo) c.o.view_is
    in let bh = ap (λ (v : Ends). v.hi) c.o.view_is
    in bounded_mul _ c.args.self.hi c.args.o.hi a b (search rules) (omega (arith, ints)) (omega (arith, ints)) x y
    (search rules)

pub returns-clause-within : goal.returns-clause-within
returns-clause-within g c = λ x y. record { low = search rules; high = returns-clause-bound g c 1 1 x y }

pub returns-clause-width : goal.returns-clause-width
returns-clause-width g c = λ v w a b x y p q.
    let al = ap (λ (v : Ends). v.lo) c.self.view_is
    in let ah = ap (λ (v : Ends). v.hi) c.self.view_is
    in let bl = ap (λ (v : Ends). v.lo) c.o.view_is
    in let bh = ap (λ (v : Ends). v.hi) c.o.view_is
    in record {
      near = width_mul _ _ c.args.self.lo c.args.self.hi c.args.o.lo c.args.o.hi v w a b (search rules)
          (search rules) c.requires.self_from c.requires.o_from (omega (arith, ints)) (omega (arith, ints)) x y
          (search rules) (search rules) p.near q.near;
    }

pub returns-clause-narrow : goal.returns-clause-narrow
returns-clause-narrow g c = λ v w x y p q.
    let k = returns-clause-width g c v w 1 1 x y p q in record { near = omega (arith, ints, k.near) }

pub returns-clause-chance : goal.returns-clause-chance
returns-clause-chance g c = λ n m d e v w p q.
    record {
      encloses = returns-clause-encloses g c (pos n) (pos m) d e p.encloses q.encloses;
      narrow = returns-clause-narrow g c v w p.within.high q.within.high p.narrow q.narrow;
      within = returns-clause-within g c p.within.high q.within.high;
    }
