use Rattle.std.proofs.Common.{◌≡◌, ◌+◌, ◌^◌, ◌<◌, lit<, length, arith, refl, ◌∙◌}
use Rattle.halo_sums.specs.Masks.{bits}
use Rattle.halo_sums.specs.Sets.{size_of}
use Rattle.halo_sums.proofs.SetMasks.{length-bits}
use Rattle.halo_sums.proofs.Within.{within-below}
use Rattle.halo_model.specs.FromTables.{lives_of}
use Rattle.halo_life.specs.PlainGroup.{is_even}
use Rattle.halo_life.specs.YearOfLives.{EnclosesLeaving, numbers_of}
use Rattle.halo_life.proofs.Filled.{filled-before, filled-next, leaving-of-nobody, most-for-one, products-for-all}
use Rattle.halo_life.proofs.Within.{one-set-more, sets-up-to, within-size}
use Rattle.halo_life.proofs.YearChances.{joint-is, length-lives}
use Rattle.halo_life.proofs.group.Group.leavings.Goals as goal

pub loop-set-init : goal.loop-set-init
loop-set-init g c = record {
  within = refl;
  sets = λ mask below within.
      let here : mask ≡ 0 = omega arith in
      rw (here, c.put_leaving.ensures.written)
      (leaving-of-nobody c.args.self.now.ties g.row.N (numbers_of c.args.self.now c.year_of_lives-year.result)
      c.exact.result c.exact.ensures.lo c.exact.ensures.hi);
  survivals = refl;
  plus = refl;
  minus = refl;
  cost = omega arith;
}

pub leaving_of_set-chance-requires : goal.leaving_of_set-chance-requires
leaving_of_set-chance-requires g c =
    let set = c.loop-set.set in
    let next = c.next_within-set.ensures in
    let IsChance = EnclosesLeaving c.args.self.now.ties g.row.N
    (numbers_of c.args.self.now c.year_of_lives-year.result) in (
      lit< tt,
      (
        lit< tt,
        (
          c.requires.sets,
          (
            omega (arith, next.later),
            (
              omega (arith, c.requires.named, within-below c.next_within-set.result c.args.named next.within),
              (
                c.year_of_lives-year.ensures.years,
                filled-before IsChance c.args.named set c.next_within-set.result next.later next.next
                    c.loop-set.into.leavings next.within c.loop-set.invariant.sets,
              ),
            ),
          ),
        ),
      ),
    )

pub loop-set-preserved : goal.loop-set-preserved
loop-set-preserved g c =
    let n = g.row.N in
    let i = c.loop-set.invariant in
    let set = c.loop-set.set in
    let next = c.next_within-set.ensures in
    let put = c.put_leaving-in-loop-set.ensures in
    let IsChance = EnclosesLeaving c.args.self.now.ties n (numbers_of c.args.self.now c.year_of_lives-year.result) in
    let below : c.next_within-set.result < 2 ^ n = omega (
      arith,
      c.requires.named,
      c.requires.sets,
      within-below c.next_within-set.result c.args.named next.within,
    ) in
    let most = most-for-one (is_even c.args.self.now.ties)
    (size_of (bits n c.next_within-set.result)) (size_of (bits n c.args.named))
    (within-size n c.next_within-set.result c.args.named below next.within) in
    record {
      within = next.within;
      sets = filled-next IsChance c.args.named set c.next_within-set.result next.later next.next
          c.loop-set.into.leavings
          c.put_leaving-in-loop-set.new.self.leavings c.leaving_of_set-chance.result
          i.sets c.leaving_of_set-chance.ensures.leaving put.written put.others;
      survivals = put.survivals ∙ i.survivals;
      plus = put.plus ∙ i.plus;
      minus = put.minus ∙ i.minus;
      cost = rw (one-set-more c.args.named set c.next_within-set.result next.later next.next next.within)
          (omega (arith, c.leaving_of_set-chance.ensures.cost, i.cost, most));
    }

pub returns-clause-chances : goal.returns-clause-chances
returns-clause-chances g c = λ mask below within.
    let n = g.row.N in
    let lives = lives_of c.args.self.now.file c.args.self.now.lives in
    let year = c.year_of_lives-year.ensures in
    let count : length lives ≡ n = length-lives n c.args.self.now year.group in
    let all : mask < c.loop-set.set + 1 = omega (arith, within-below mask c.args.named within, c.loop-set-test.false) in
    let chance = c.loop-set.invariant.sets mask all within in
    rw (joint-is n c.args.k lives (bits n mask) count (length-bits n mask))
    (rw (year.k, year.counted, year.causes) at chance)

pub returns-clause-cost : goal.returns-clause-cost
returns-clause-cost g c =
    let n = g.row.N in
    let sets = sets-up-to n c.args.named (omega (arith, c.requires.named, c.requires.sets)) in
    let cost = rw (c.loop-set-test.false, sets) at c.loop-set.invariant.cost in
    omega (arith, cost, products-for-all c.args.self.now.ties (size_of (bits n c.args.named)))
