use Rattle.std.proofs.Common.{◌≡◌, ◌≢◌, ℕ, arith, lit<, refl, ◌∙◌}
use Rattle.halo_sums.proofs.Within.{within-below}
use Rattle.halo_life.specs.Lists.{entry}
use Rattle.halo_life.proofs.Within.{all-up-to, one-set-more, other-than, up-to-next}
use Rattle.halo_annuity.specs.SetSteps.{CarriesBy}
use Rattle.halo_annuity.proofs.carry.carry_sets.Goals as goal

pub loop-set-init : goal.loop-set-init
loop-set-init g c =
    let first = c.carry_set.ensures in
    record {
      within = refl;
      plus = λ k low within. let e : k ≡ 0 = omega arith in rw e first.plus;
      minus = λ k low within. let e : k ≡ 0 = omega arith in rw e first.minus;
      rest = λ k behind. first.others k (other-than c.args.named 0 k refl behind);
      survivals = first.survivals;
      cost = omega (arith, first.cost);
    }

pub carry_set-requires-in-loop-set : goal.carry_set-requires-in-loop-set
carry_set-requires-in-loop-set g c =
    let i = c.loop-set.invariant in
    let next = c.next_within-set.ensures in
    let now = i.rest c.next_within-set.result (λ within. next.later) in (
      lit< tt,
      (
        omega (arith, c.requires.below, within-below c.next_within-set.result c.args.named next.within),
        (
          c.requires.discount,
          (
            rw i.survivals (c.requires.survivals c.next_within-set.result next.within),
            rw (now.0, now.1) (c.requires.modest c.next_within-set.result next.within),
          ),
        ),
      ),
    )

pub loop-set-preserved : goal.loop-set-preserved
loop-set-preserved g c =
    let i = c.loop-set.invariant in
    let set = c.loop-set.set in
    let next : ℕ = c.next_within-set.result in
    let e = c.next_within-set.ensures in
    let before = c.args.work.now in
    let after = c.carry_set-in-loop-set.new.work in
    let step = c.carry_set-in-loop-set.ensures in
    let now = i.rest next (λ within. e.later) in
    record {
      within = e.within;
      plus = up-to-next c.args.named set next e.later e.next
          (λ k. CarriesBy c.args.discount (entry before.survivals k) (entry before.plus k) (entry after.plus k))
          (λ k low within. let other : k ≢ next = omega (arith, low, e.later) in
          rw ((step.others k other).0) (i.plus k low within))
          (rw (← now.0, ← i.survivals) step.plus);
      minus = up-to-next c.args.named set next e.later e.next
          (λ k. CarriesBy c.args.discount (entry before.survivals k) (entry before.minus k) (entry after.minus k))
          (λ k low within. let other : k ≢ next = omega (arith, low, e.later) in
          rw ((step.others k other).1) (i.minus k low within))
          (rw (← now.1, ← i.survivals) step.minus);
      rest = λ k behind.
          let others = step.others k (other-than c.args.named next k e.within behind) in
          let rest = i.rest k (λ within. omega (arith, e.later, behind within)) in
          (others.0 ∙ rest.0, others.1 ∙ rest.1);
      survivals = step.survivals ∙ i.survivals;
      cost = omega (arith, step.cost, i.cost, one-set-more c.args.named set next e.later e.next e.within);
    }

pub returns-clause-cost : goal.returns-clause-cost
returns-clause-cost g c =
    let sets = rw c.loop-set-test.false at c.loop-set.invariant.cost in
    omega (arith, sets, all-up-to g.row.M c.args.named c.requires.below)
