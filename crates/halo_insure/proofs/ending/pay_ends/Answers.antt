use Rattle.std.proofs.Common.{◌≡◌, ◌≢◌, ℕ, arith, lit<, refl, ◌∙◌}
use Rattle.halo_model.specs.Backward.{above_zero, below_zero}
use Rattle.halo_life.specs.Lists.{entry}
use Rattle.halo_life.proofs.Within.{other-than, up-to-next}
use Rattle.halo_sums.proofs.Within.{within-below}
use Rattle.halo_insure.specs.Ending.{IsPaidAtEnd}
use Rattle.halo_insure.proofs.ending.pay_ends.Goals as goal

pub loop-set-init : goal.loop-set-init
loop-set-init g c =
    let first = c.pay_end.ensures in
    record {
      within = refl;
      plus = λ k low within. let e : k ≡ 0 = omega arith in rw e first.plus;
      minus = λ k low within. let e : k ≡ 0 = omega arith in rw e first.minus;
      rest = λ k behind. (first.others k (other-than c.args.named 0 k refl behind)).0;
    }

pub pay_end-requires-in-loop-set : goal.pay_end-requires-in-loop-set
pay_end-requires-in-loop-set g c =
    let next : ℕ = c.next_within-set.result in
    let e = c.next_within-set.ensures in
    let now = c.loop-set.invariant.rest next (λ within. e.later) in (
      lit< tt,
      (
        lit< tt,
        (
          omega (arith, c.requires.below, within-below next c.args.named e.within),
          (
            c.requires.payment,
            (
              c.requires.here next e.within,
              (c.requires.next next e.within, rw now (c.requires.endowments next e.within)),
            ),
          ),
        ),
      ),
    )

pub loop-set-preserved : goal.loop-set-preserved
loop-set-preserved g c =
    let i = c.loop-set.invariant in
    let set = c.loop-set.set in
    let next : ℕ = c.next_within-set.result in
    let e = c.next_within-set.ensures in
    let before = c.args.work.now in
    let after = c.pay_end-in-loop-set.new.work in
    let step = c.pay_end-in-loop-set.ensures in
    let now = i.rest next (λ within. e.later) in
    record {
      within = e.within;
      plus = up-to-next c.args.named set next e.later e.next
          (λ k. IsPaidAtEnd above_zero c.args.year.now k (entry before.plus k) (entry after.plus k))
          (λ k low within. let other : k ≢ next = omega (arith, low, e.later) in
          rw ((step.others k other).0) (i.plus k low within))
          (rw (← now) step.plus);
      minus = up-to-next c.args.named set next e.later e.next
          (λ k. IsPaidAtEnd below_zero c.args.year.now k (entry before.plus k) (entry after.minus k))
          (λ k low within. let other : k ≢ next = omega (arith, low, e.later) in
          rw ((step.others k other).1) (i.minus k low within))
          (rw (← now) step.minus);
      rest = λ k behind.
          let others = step.others k (other-than c.args.named next k e.within behind) in
          others.0 ∙ i.rest k (λ within. omega (arith, e.later, behind within));
    }

pub returns-clause-plus : goal.returns-clause-plus
returns-clause-plus g c = λ mask within. c.loop-set.invariant.plus mask
    (omega (arith, within-below mask c.args.named within, c.loop-set-test.false)) within

pub returns-clause-minus : goal.returns-clause-minus
returns-clause-minus g c = λ mask within. c.loop-set.invariant.minus mask
    (omega (arith, within-below mask c.args.named within, c.loop-set-test.false)) within
