use Rattle.std.proofs.Common.{◌≡◌, ◌≢◌, ℕ, ◌*◌, arith, lit<, rules, to_z, of_z, to_z-of_z, w64, ◌∙◌}
use Rattle.halo_sums.proofs.Within.{within-below}
use Rattle.halo_life.specs.Lists.{entry}
use Rattle.halo_life.proofs.Within.{other-than, up-to-next}
use Rattle.halo_model.specs.Backward.{above_zero, below_zero}
use Rattle.halo_poly.specs.Poly.{coefficient_at}
use Rattle.halo_annuity.specs.SetSteps.{GrowsBy}
use Rattle.halo_annuity.proofs.sets.pay_sets.Goals as goal

pub pay_set-requires-in-loop-set : goal.pay_set-requires-in-loop-set
pay_set-requires-in-loop-set g c =
    let next = c.next_within-set.ensures in
    let now = c.loop-set.invariant.rest c.next_within-set.result (λ within. next.later) in
    let same : to_z w64 (of_z w64 c.coefficient-in-loop-set.result) ≡ c.coefficient-in-loop-set.result =
    search (rules, to_z-of_z) in (
      lit< tt,
      (
        omega (arith, c.requires.below, within-below c.next_within-set.result c.args.named next.within),
        (
          c.requires.paid,
          (
            rw (same, c.coefficient-in-loop-set.ensures.value) (c.requires.sized c.next_within-set.result next.within),
            rw (now.0, now.1) (c.requires.modest c.next_within-set.result next.within),
          ),
        ),
      ),
    )

pub loop-set-preserved : goal.loop-set-preserved
loop-set-preserved g c =
    let i = c.loop-set.invariant in
    let set = c.loop-set.set in
    let next : ℕ = c.next_within-set.result in
    let e = c.next_within-set.ensures in
    let before = c.args.work.now in
    let after = c.pay_set-in-loop-set.new.work in
    let step = c.pay_set-in-loop-set.ensures in
    let now = i.rest next (λ within. e.later) in
    let above : ℕ → ℕ = λ k. c.args.paid * above_zero (coefficient_at c.args.poly.now k) in
    let below : ℕ → ℕ = λ k. c.args.paid * below_zero (coefficient_at c.args.poly.now k) in
    let same : to_z w64 (of_z w64 c.coefficient-in-loop-set.result) ≡ c.coefficient-in-loop-set.result =
    search (rules, to_z-of_z) in
    record {
      within = e.within;
      plus = up-to-next c.args.named set next e.later e.next
          (λ k. GrowsBy (above k) (entry before.plus k) (entry after.plus k))
          (λ k low within. let other : k ≢ next = omega (arith, low, e.later) in
          rw ((step.others k other).0) (i.plus k low within))
          (rw (same, c.coefficient-in-loop-set.ensures.value, now.0) at step.plus);
      minus = up-to-next c.args.named set next e.later e.next
          (λ k. GrowsBy (below k) (entry before.minus k) (entry after.minus k))
          (λ k low within. let other : k ≢ next = omega (arith, low, e.later) in
          rw ((step.others k other).1) (i.minus k low within))
          (rw (same, c.coefficient-in-loop-set.ensures.value, now.1) at step.minus);
      rest = λ k behind.
          let others = step.others k (other-than c.args.named next k e.within behind) in
          let rest = i.rest k (λ within. omega (arith, e.later, behind within)) in
          (others.0 ∙ rest.0, others.1 ∙ rest.1);
    }
