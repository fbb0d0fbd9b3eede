-- One sum more is made.
use Rattle.std.proofs.Common.{◌≡◌, ◌+◌, ap, ◌∙◌, length}
use Rattle.halo_poly.specs.Poly.{EachOfSets, count_at, value_on, values_on}
use Rattle.halo_poly.specs.Symmetric.{symmetric_sum}
use Rattle.halo_poly.proofs.Counted.{length-one_added, one_added, sum_told}
use Rattle.halo_poly.proofs.survivors.symmetric.Goals as goal

pub loop-j-preserved : goal.loop-j-preserved
loop-j-preserved g c = record {
  count =
      ap length c.in_ok-push.ensures.items
      ∙ length-one_added c.loop-j.sums.items c.in_ok-sum.sum
      ∙ ap (λ n. n + 1) c.loop-j.invariant.count;
  values = rw c.in_ok-push.ensures.items (one_added
      (λ j p. EachOfSets g.row.M (λ s. value_on p s ≡ symmetric_sum j (values_on c.args.list.now s)))
      c.loop-j.sums.items c.in_ok-sum.sum c.loop-j.j c.loop-j.invariant.count c.loop-j.invariant.values
      (λ n e s l.
      c.in_ok-sum.ensures n e s l
      ∙ sum_told n c.args.list.now c.loop-j.j s (count_at c.deref.result.now s) (c.requires.statuses n e) l
      (ap (λ ks. count_at ks s) c.deref.ensures.value ∙ c.in_ok-counts.ensures.counts n e s l)));
}
