use Rattle.std.proofs.Common.{◌≡◌, ◌≢◌, ℕ, ◌+◌, ◌<◌, lit<, arith, refl, ◌∙◌}
use Rattle.halo_life.specs.Lists.{entry, nothing}
use Rattle.halo_life.proofs.Within.{up-to-next}
use Rattle.halo_insure.proofs.WithoutLife.{outside-other}
use Rattle.halo_sums.proofs.Within.{within-below}
use Rattle.halo_insure.proofs.sets.clear_all.Goals as goal

pub clear-requires-in-loop-set : goal.clear-requires-in-loop-set
clear-requires-in-loop-set g c = (
  lit< tt,
  omega (
    arith,
    c.requires,
    within-below c.next_within-set.result c.args.named c.next_within-set.ensures.within,
  ),
)

pub loop-set-init : goal.loop-set-init
loop-set-init g c =
    let first = c.clear.ensures in
    record {
      within = refl;
      plus = λ k low within. let e : k ≡ 0 = omega arith in rw e first.plus;
      minus = λ k low within. let e : k ≡ 0 = omega arith in rw e first.minus;
      rest = λ k outside. first.others k (outside-other k 0 c.args.named refl outside);
    }

pub loop-set-preserved : goal.loop-set-preserved
loop-set-preserved g c =
    let i = c.loop-set.invariant in
    let set = c.loop-set.set in
    let e = c.next_within-set.ensures in
    let step = c.clear-in-loop-set.ensures in
    let next : ℕ = c.next_within-set.result in
    let after = c.clear-in-loop-set.new.work in
    record {
      within = e.within;
      plus = up-to-next c.args.named set next e.later e.next (λ k. entry after.plus k ≡ nothing)
          (λ k low within. let other : k ≢ next = omega (arith, low, e.later) in
          rw ((step.others k other).0) (i.plus k low within)) step.plus;
      minus = up-to-next c.args.named set next e.later e.next (λ k. entry after.minus k ≡ nothing)
          (λ k low within. let other : k ≢ next = omega (arith, low, e.later) in
          rw ((step.others k other).1) (i.minus k low within)) step.minus;
      rest = λ k outside.
          let others = step.others k (outside-other k next c.args.named e.within outside) in
          let rest = i.rest k outside in (others.0 ∙ rest.0, others.1 ∙ rest.1);
    }

pub returns-clause-cleared : goal.returns-clause-cleared
returns-clause-cleared g c = λ mask within.
    let i = c.loop-set.invariant in
    let low : mask < c.loop-set.set + 1 =
    omega (arith, within-below mask c.args.named within, c.loop-set-test.false) in
    (i.plus mask low within, i.minus mask low within)

pub returns-clause-others : goal.returns-clause-others
returns-clause-others g c = c.loop-set.invariant.rest
