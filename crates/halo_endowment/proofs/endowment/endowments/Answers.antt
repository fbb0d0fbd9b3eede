use Rattle.std.proofs.Common.{◌≡◌, ◌+◌, ◌<◌, ◌≤◌, ◌^◌, ◌∙◌, ap, arith, length, lit<, pos, refl}
use Rattle.std.proofs.Math.Nat.{pow-le-pow_right}
use Rattle.halo_sums.proofs.Within.{within-below}
use Rattle.halo_num.specs.Ends.{IsWithin, fine}
use Rattle.halo_life.specs.Lists.{entry}
use Rattle.halo_life.proofs.Filled.{filled-before, filled-next}
use Rattle.halo_life.proofs.Within.{one-set-more, sets-up-to}
use Rattle.halo_life.proofs.YearChances.{length-lives}
use Rattle.halo_endowment.specs.Endowment.{EnclosesEndowment}
use Rattle.halo_endowment.proofs.EndowmentsOfSets.{are-survivals, endowment-by-first, endowment-of-nobody}
use Rattle.halo_endowment.proofs.endowment.endowments.Goals as goal

pub loop-set-init : goal.loop-set-init
loop-set-init g c =
    let now = c.args.group.now in
    let put = c.put_plus.ensures in
    record {
      within = refl;
      inside = λ mask below within.
          let here : mask ≡ 0 = omega arith in
          rw (here, put.written) c.requires.discount;
      sets = λ b of_group power mask below within.
          let here : mask ≡ 0 = omega arith in
          rw (here, put.written) (endowment-of-nobody b g.row.N now.start c.args.t
          (ap (λ lives. length lives) of_group ∙ length-lives g.row.N now c.start-start.ensures.group)
          c.args.discount power);
      minus = λ mask. ap (λ list. entry list mask) put.minus;
      cost = omega arith;
    }

pub with_first-endowment-requires : goal.with_first-endowment-requires
with_first-endowment-requires g c =
    let next = c.next_within-set.ensures in
    let few : 2 ^ g.row.N ≤ 2 ^ 12 = pow-le-pow_right (omega arith) {i = g.row.N} {j = 12}
    (omega (arith, c.start-start.ensures.group.few)) in (
      lit< tt,
      (
        omega (arith, few, c.requires.sets),
        (
          omega (arith, next.later),
          (
            omega (arith, c.requires.named, within-below c.next_within-set.result c.args.named next.within),
            (
              c.survivals-lives.ensures.chances,
              filled-before (λ mask i. IsWithin i (pos 0) (pos fine)) c.args.named c.loop-set.set
                  c.next_within-set.result next.later next.next c.loop-set.work.plus next.within
                  c.loop-set.invariant.inside,
            ),
          ),
        ),
      ),
    )

pub loop-set-preserved : goal.loop-set-preserved
loop-set-preserved g c =
    let n = g.row.N in
    let now = c.args.group.now in
    let group = c.start-start.ensures.group in
    let i = c.loop-set.invariant in
    let set = c.loop-set.set in
    let next = c.next_within-set.ensures in
    let put = c.put_plus-in-loop-set.ensures in
    let first = c.with_first-endowment.ensures in
    record {
      within = next.within;
      inside = filled-next (λ mask i. IsWithin i (pos 0) (pos fine)) c.args.named set c.next_within-set.result
          next.later next.next c.loop-set.work.plus c.put_plus-in-loop-set.new.self.plus c.with_first-endowment.result
          i.inside first.within put.written put.others;
      sets = λ b of_group power.
          let IsChance = EnclosesEndowment b n now.start c.args.t in
          let before = i.sets b of_group power in
          let smaller = filled-before IsChance c.args.named set c.next_within-set.result next.later next.next
          c.loop-set.work.plus next.within before in
          let are = are-survivals n now group c.args.t c.requires.from c.requires.living b of_group
          c.survivals-lives.result c.survivals-lives.ensures.survivals in
          let endowment = endowment-by-first b n now.start c.args.t
          (ap (λ lives. length lives) of_group ∙ length-lives n now group) c.next_within-set.result
          (omega (
            arith,
            c.requires.sets,
            c.requires.named,
            within-below c.next_within-set.result c.args.named next.within,
          ))
          c.survivals-lives.result c.loop-set.work.plus c.with_first-endowment.result first.product are smaller in
          filled-next IsChance c.args.named set c.next_within-set.result next.later next.next
          c.loop-set.work.plus c.put_plus-in-loop-set.new.self.plus c.with_first-endowment.result
          before endowment put.written put.others;
      minus = λ mask. ap (λ list. entry list mask) put.minus ∙ i.minus mask;
      cost = omega (
        arith,
        first.cost,
        i.cost,
        one-set-more c.args.named set c.next_within-set.result next.later next.next next.within,
      );
    }

pub returns-clause-endowments : goal.returns-clause-endowments
returns-clause-endowments g c = λ b of_group power mask within.
    let low : mask < c.loop-set.set + 1 =
    omega (arith, within-below mask c.args.named within, c.loop-set-test.false) in
    c.loop-set.invariant.sets b of_group power mask low within

pub returns-clause-minus : goal.returns-clause-minus
returns-clause-minus g c = c.loop-set.invariant.minus

pub returns-clause-cost : goal.returns-clause-cost
returns-clause-cost g c =
    let cost = rw c.loop-set-test.false at c.loop-set.invariant.cost in
    let sets = sets-up-to g.row.N c.args.named (omega (arith, c.requires.named, c.requires.sets)) in
    omega (arith, cost, sets)
