-- The sets are marked by their counts, and the counts tell the sums.
use Rattle.std.proofs.Common.{◌≡◌, arith, ap, ◌∙◌, List, Bool, false, nat_le, get_or, length}
use Rattle.halo_sums.specs.Sums.{indicator}
use Rattle.halo_poly.specs.Poly.{EachOfSets, count_at, is_marked, value_on, values_on}
use Rattle.halo_poly.specs.Symmetric.{at_least_sum}
use Rattle.halo_poly.proofs.Counted.{if_ok, marks_written, sum_on_marks}
use Rattle.halo_poly.proofs.Picked.{at-least-is-sum}
use Rattle.halo_poly.proofs.survivors.at_least.Goals as goal

pub returns : goal.returns
returns g c =
    let marks : List Bool = c.mark_at_least.new.marked in
    let kept : length marks ≡ c.in_ok-marked.marked.len =
    omega (arith, c.mark_at_least.ensures.length, c.deref_mut.ensures.len) in
    let seen : c.deref-2.result.now ≡ marks =
    c.deref-2.ensures.value ∙ marks_written c.in_ok-marked.marked.len marks c.in_ok-marked.marked.items kept in
    if_ok c.of_sets.result
    (λ p. EachOfSets g.row.M (λ s. value_on p s ≡ indicator (is_marked c.deref-2.result.now s)))
    (λ p. EachOfSets g.row.M (λ s. value_on p s ≡ at_least_sum c.args.r (values_on c.args.list.now s)))
    c.of_sets.ensures.values
    (sum_on_marks g.row.M c.args.list.now c.deref.result.now c.requires.statuses
    (ap length c.deref.ensures.value ∙ c.in_ok-counts.ensures.full)
    (λ n e s l. ap (λ ks. count_at ks s) c.deref.ensures.value ∙ c.in_ok-counts.ensures.counts n e s l)
    (nat_le c.args.r) (at_least_sum c.args.r) (λ bs. at-least-is-sum c.args.r bs c.requires.rank) c.deref-2.result.now
    (λ k h. ap (λ ms. get_or ms k false) seen ∙ c.mark_at_least.ensures.marks k h))
