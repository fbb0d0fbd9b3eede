use Rattle.std.proofs.Common.{◌≡◌, ◌≢◌, ℕ, arith, lit<, refl, sym, ◌∙◌}
use Rattle.halo_model.specs.Backward.{above_zero, below_zero}
use Rattle.halo_life.specs.Lists.{entry}
use Rattle.halo_life.proofs.Within.{all-up-to, one-set-more, other-than, up-to-next}
use Rattle.halo_sums.proofs.Within.{within-below}
use Rattle.halo_insure.specs.YearSets.{SetGoesBack}
use Rattle.halo_insure.proofs.sets.sets_back.Goals as goal

pub loop-set-init : goal.loop-set-init
loop-set-init g c =
    let first = c.set_back.ensures in
    record {
      within = refl;
      plus = λ k low within. let e : k ≡ 0 = omega arith in rw e first.plus;
      minus = λ k low within. let e : k ≡ 0 = omega arith in rw e first.minus;
      rest = λ k behind. first.others k (other-than c.args.named 0 k refl behind);
      survivals = first.survivals;
      leavings = first.leavings;
      cost = omega (arith, first.cost);
    }

pub set_back-requires-in-loop-set : goal.set_back-requires-in-loop-set
set_back-requires-in-loop-set g c =
    let i = c.loop-set.invariant in
    let next : ℕ = c.next_within-set.result in
    let e = c.next_within-set.ensures in
    let now = i.rest next (λ within. e.later) in (
      lit< tt,
      (
        lit< tt,
        (
          omega (arith, c.requires.below, within-below next c.args.named e.within),
          (
            c.requires.discount,
            (
              c.requires.payment,
              (
                c.requires.here next e.within,
                (
                  c.requires.next next e.within,
                  (
                    rw i.leavings (c.requires.leavings next e.within),
                    (
                      rw i.survivals (c.requires.survivals next e.within),
                      rw (now.0, now.1) (c.requires.modest next e.within),
                    ),
                  ),
                ),
              ),
            ),
          ),
        ),
      ),
    )

pub loop-set-preserved : goal.loop-set-preserved
loop-set-preserved g c =
    let i = c.loop-set.invariant in
    let set = c.loop-set.set in
    let next : ℕ = c.next_within-set.result in
    let e = c.next_within-set.ensures in
    let before = c.args.work.now in
    let after = c.set_back-in-loop-set.new.work in
    let step = c.set_back-in-loop-set.ensures in
    let now = i.rest next (λ within. e.later) in
    record {
      within = e.within;
      plus = up-to-next c.args.named set next e.later e.next
          (λ k. SetGoesBack above_zero c.args.year.now before k (entry before.plus k) (entry after.plus k))
          (λ k low within. let other : k ≢ next = omega (arith, low, e.later) in
          rw ((step.others k other).0) (i.plus k low within))
          (rw (← now.0, ← i.survivals, ← i.leavings) step.plus);
      minus = up-to-next c.args.named set next e.later e.next
          (λ k. SetGoesBack below_zero c.args.year.now before k (entry before.minus k) (entry after.minus k))
          (λ k low within. let other : k ≢ next = omega (arith, low, e.later) in
          rw ((step.others k other).1) (i.minus k low within))
          (rw (← now.1, ← i.survivals, ← i.leavings) step.minus);
      rest = λ k behind.
          let others = step.others k (other-than c.args.named next k e.within behind) in
          let rest = i.rest k (λ within. omega (arith, e.later, behind within)) in
          (others.0 ∙ rest.0, others.1 ∙ rest.1);
      survivals = step.survivals ∙ i.survivals;
      leavings = step.leavings ∙ i.leavings;
      cost = omega (arith, step.cost, i.cost, one-set-more c.args.named set next e.later e.next e.within);
    }

pub returns-clause-back : goal.returns-clause-back
returns-clause-back g c =
    let i = c.loop-set.invariant in
    record {
      plus = λ mask within.
          i.plus mask (omega (arith, within-below mask c.args.named within, c.loop-set-test.false)) within;
      minus = λ mask within.
          i.minus mask (omega (arith, within-below mask c.args.named within, c.loop-set-test.false)) within;
      others = λ mask outside. i.rest mask (λ within. absurd (cc (sym within ∙ outside)));
    }

pub returns-clause-cost : goal.returns-clause-cost
returns-clause-cost g c =
    let sets = rw c.loop-set-test.false at c.loop-set.invariant.cost in
    omega (arith, sets, all-up-to g.row.M c.args.named c.requires.below)
