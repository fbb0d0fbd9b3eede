-- One polynomial more is counted.
use Rattle.std.proofs.Common.{arith, ap, sym, ◌∙◌, ◌+◌, cond}
use Rattle.halo_poly.specs.Poly.{value_on}
use Rattle.halo_poly.specs.Symmetric.{is_one}
use Rattle.halo_poly.proofs.Counted.{counted_more}
use Rattle.halo_poly.proofs.survivors.count_all.Goals as goal

pub loop-i-preserved : goal.loop-i-preserved
loop-i-preserved g c = record {
  same = c.count_values.ensures.length ∙ c.loop-i.invariant.same;
  room = λ k. omega (arith, c.count_values.ensures.room k, c.loop-i.invariant.room k);
  counts = λ n e s l.
      c.count_values.ensures.counts n e s l
      ∙ ap (λ m. m + cond (is_one (value_on c.index-list-i.result s)) 1 0) (c.loop-i.invariant.counts n e s l)
      ∙ sym (counted_more c.args.list.now c.loop-i.i c.index-list-i.result s c.loop-i-test.true c.index-list-i.is);
}
