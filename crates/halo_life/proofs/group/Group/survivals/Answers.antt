use Rattle.std.proofs.Common.{◌≡◌, ◌+◌, ◌<◌, suc, lit<, length, arith, refl, ap, ◌∙◌}
use Rattle.halo_sums.specs.Masks.{bits}
use Rattle.halo_sums.proofs.SetMasks.{length-bits}
use Rattle.halo_sums.proofs.Within.{within-below}
use Rattle.halo_model.specs.FromTables.{lives_of}
use Rattle.halo_life.specs.YearOfLives.{EnclosesSurvival, numbers_of}
use Rattle.halo_life.proofs.Filled.{filled-before, filled-next, survival-of-nobody}
use Rattle.halo_life.proofs.Within.{one-set-more, sets-up-to}
use Rattle.halo_life.proofs.YearChances.{joint-is, length-lives}
use Rattle.halo_life.proofs.group.Group.survivals.Goals as goal

pub loop-set-init : goal.loop-set-init
loop-set-init g c = record {
  within = refl;
  sets = λ mask below within.
      let here : mask ≡ 0 = omega arith in
      rw (here, c.put_survival.ensures.written)
      (survival-of-nobody g.row.N (numbers_of c.args.self.now c.year_of_lives-year.result)
      c.exact.result c.exact.ensures.lo c.exact.ensures.hi);
  leavings = refl;
  plus = refl;
  minus = refl;
  cost = refl;
}

pub survival_of_set-chance-requires : goal.survival_of_set-chance-requires
survival_of_set-chance-requires g c =
    let set = c.loop-set.set in
    let next = c.next_within-set.ensures in
    let IsChance = EnclosesSurvival g.row.N (numbers_of c.args.self.now c.year_of_lives-year.result) in (
      lit< tt,
      (
        lit< tt,
        (
          c.requires.sets,
          (
            omega (arith, next.later),
            (
              omega (arith, c.requires.named, within-below c.next_within-set.result c.args.named next.within),
              (
                c.year_of_lives-year.ensures.years,
                filled-before IsChance c.args.named set c.next_within-set.result next.later next.next
                    c.loop-set.into.survivals next.within c.loop-set.invariant.sets,
              ),
            ),
          ),
        ),
      ),
    )

pub loop-set-preserved : goal.loop-set-preserved
loop-set-preserved g c =
    let i = c.loop-set.invariant in
    let set = c.loop-set.set in
    let next = c.next_within-set.ensures in
    let put = c.put_survival-in-loop-set.ensures in
    let IsChance = EnclosesSurvival g.row.N (numbers_of c.args.self.now c.year_of_lives-year.result) in
    record {
      within = next.within;
      sets = filled-next IsChance c.args.named set c.next_within-set.result next.later next.next
          c.loop-set.into.survivals
          c.put_survival-in-loop-set.new.self.survivals c.survival_of_set-chance.result
          i.sets c.survival_of_set-chance.ensures.survival put.written put.others;
      leavings = put.leavings ∙ i.leavings;
      plus = put.plus ∙ i.plus;
      minus = put.minus ∙ i.minus;
      cost = omega (
        arith,
        c.survival_of_set-chance.ensures.cost,
        i.cost,
        one-set-more c.args.named set c.next_within-set.result next.later next.next next.within,
      );
    }

pub returns-clause-chances : goal.returns-clause-chances
returns-clause-chances g c = λ mask below within.
    let n = g.row.N in
    let lives = lives_of c.args.self.now.file c.args.self.now.lives in
    let group = c.year_of_lives-year.ensures.group in
    let count : length lives ≡ n = length-lives n c.args.self.now group in
    let same = length-bits n mask in
    let all : mask < c.loop-set.set + 1 = omega (arith, within-below mask c.args.named within, c.loop-set-test.false) in
    let chance = c.loop-set.invariant.sets mask all within in
    rw (joint-is n (suc c.args.k) lives (bits n mask) count same, joint-is n c.args.k lives (bits n mask) count same)
    (rw (c.year_of_lives-year.ensures.k) at chance)

pub returns-clause-cost : goal.returns-clause-cost
returns-clause-cost g c =
    let sets = sets-up-to g.row.N c.args.named (omega (arith, c.requires.named, c.requires.sets)) in
    let cost = rw c.loop-set-test.false at c.loop-set.invariant.cost in
    cost ∙ ap (λ k. c.args.steps.now + k) sets
