use Rattle.std.proofs.Common.{◌≡◌, ◌≢◌, ℕ, arith, lit<, refl, ◌∙◌}
use Rattle.halo_sums.proofs.Within.{within-below}
use Rattle.halo_life.specs.Lists.{entry}
use Rattle.halo_life.proofs.Within.{other-than, up-to-next}
use Rattle.halo_endowment.specs.Payments.{AddsPayments}
use Rattle.halo_annuity.proofs.paid.add_payments.Goals as goal

pub loop-set-init : goal.loop-set-init
loop-set-init g c =
    let first = c.add_payment.ensures in
    record {
      within = refl;
      added = λ k low within. let e : k ≡ 0 = omega arith in rw e first.added;
      rest = λ k behind. first.others k (other-than c.args.named 0 k refl behind);
    }

pub add_payment-requires-in-loop-set : goal.add_payment-requires-in-loop-set
add_payment-requires-in-loop-set g c =
    let next : ℕ = c.next_within-set.result in
    let e = c.next_within-set.ensures in
    let now = c.loop-set.invariant.rest next (λ within. e.later) in (
      lit< tt,
      (
        omega (arith, c.requires.below, within-below next c.args.named e.within),
        (
          c.requires.paid,
          (
            rw (now.0) (c.requires.endowments next e.within),
            rw (now.1) (c.requires.modest next e.within),
          ),
        ),
      ),
    )

pub loop-set-preserved : goal.loop-set-preserved
loop-set-preserved g c =
    let i = c.loop-set.invariant in
    let set = c.loop-set.set in
    let next : ℕ = c.next_within-set.result in
    let e = c.next_within-set.ensures in
    let before = c.args.work.now in
    let after = c.add_payment-in-loop-set.new.work in
    let step = c.add_payment-in-loop-set.ensures in
    let now = i.rest next (λ within. e.later) in
    record {
      within = e.within;
      added = up-to-next c.args.named set next e.later e.next
          (λ k. AddsPayments c.args.paid (entry before.plus k) (entry before.minus k) (entry after.minus k))
          (λ k low within. let other : k ≢ next = omega (arith, low, e.later) in
          rw ((step.others k other).1) (i.added k low within))
          (rw (now.0, now.1) at step.added);
      rest = λ k behind.
          let others = step.others k (other-than c.args.named next k e.within behind) in
          let rest = i.rest k (λ within. omega (arith, e.later, behind within)) in
          (others.0 ∙ rest.0, others.1 ∙ rest.1);
    }

pub returns : goal.returns
returns g c = λ mask within. c.loop-set.invariant.added mask
    (omega (arith, within-below mask c.args.named within, c.loop-set-test.false)) within
