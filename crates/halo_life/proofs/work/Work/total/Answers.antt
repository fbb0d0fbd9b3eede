use Rattle.std.proofs.Common.{arith, refl, sym, ◌∙◌}
use Rattle.std.proofs.lemmas.Int.{ints}
use Rattle.halo_num.specs.Ends.{Ends}
use Rattle.halo_sums.proofs.Within.{within-below}
use Rattle.halo_life.proofs.Shares.{all-added, next-added}
use Rattle.halo_life.proofs.work.Work.total.Goals as goal

pub loop-set-init : goal.loop-set-init
loop-set-init g c =
    let first = c.share-sum.ensures in
    record {
      within = refl;
      lo = omega (arith, ints, first.lo c.args.alive refl);
      hi = omega (arith, ints, first.hi c.args.alive refl);
      low = omega (arith, ints, first.modest.low);
      high = omega (arith, ints, first.modest.high);
    }

pub add-sum-requires-clause-self_in : goal.add-sum-requires-clause-self_in
add-sum-requires-clause-self_in g c =
    let i = c.loop-set.invariant in
    let few = within-below c.loop-set.set c.args.alive i.within in
    record {
      low = omega (arith, ints, i.low, few, c.requires.below, c.requires.few);
      high = omega (arith, ints, i.high, few, c.requires.below, c.requires.few);
    }

pub loop-set-preserved : goal.loop-set-preserved
loop-set-preserved g c =
    let i = c.loop-set.invariant in
    let set = c.loop-set.set in
    let next = c.next_within-set.ensures in
    let more = c.share.ensures in
    let sum = c.add-sum.ensures in
    record {
      within = next.within;
      lo = omega (
        arith,
        ints,
        sum.lo,
        more.lo c.args.alive next.within,
        i.lo,
        next-added (λ (i : Ends). i.lo) refl c.args.self.now c.args.alive
            set c.next_within-set.result next.later next.next,
      );
      hi = omega (
        arith,
        ints,
        sum.hi,
        more.hi c.args.alive next.within,
        i.hi,
        next-added (λ (i : Ends). i.hi) refl c.args.self.now c.args.alive
            set c.next_within-set.result next.later next.next,
      );
      low = omega (arith, ints, sum.lo, more.modest.low, i.low, next.later);
      high = omega (arith, ints, sum.hi, more.modest.high, i.high, next.later);
    }

pub returns-clause-lo : goal.returns-clause-lo
returns-clause-lo g c = rw (c.loop-set-test.false) at c.loop-set.invariant.lo
    ∙ sym (all-added (λ (i : Ends). i.lo) refl c.args.self.now c.args.alive g.row.M c.requires.below)

pub returns-clause-hi : goal.returns-clause-hi
returns-clause-hi g c = rw (c.loop-set-test.false) at c.loop-set.invariant.hi
    ∙ sym (all-added (λ (i : Ends). i.hi) refl c.args.self.now c.args.alive g.row.M c.requires.below)
