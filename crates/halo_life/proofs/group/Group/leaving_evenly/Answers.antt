use Rattle.std.proofs.Common.{◌≡◌, ◌^◌, ◌<◌, ◌≤◌, length, true, false, arith, sym, ◌∙◌}
use Rattle.std.specs.List.{filter}
use Rattle.std.proofs.lemmas.Int.{ints}
use Rattle.halo_sums.specs.Masks.{bits, has_bit}
use Rattle.halo_sums.specs.Sets.{in_set}
use Rattle.halo_sums.specs.Sums.{numbers_from}
use Rattle.halo_life.specs.YearOfLives.{EnclosesFirst, numbers_of}
use Rattle.halo_contract.specs.declared.ties.Ties.TheVariants.{Even}
use Rattle.halo_life.proofs.Firsts.{IsCut, IsSumTo, count-with, evenly-enclosed, size-some, sum-with, sum-without}
use Rattle.halo_life.proofs.OneSet.{size-of-lives}
use Rattle.halo_life.proofs.group.Group.leaving_evenly.Goals.{then-has_bit, else-has_bit}
use Rattle.halo_life.proofs.group.Group.leaving_evenly.Goals as goal

pub loop-life-preserved : goal.loop-life-preserved
loop-life-preserved g c =
    let n = g.row.N in
    let set = c.args.set in
    let life = c.loop-life.life in
    let numbers = numbers_of c.args.self.now c.args.year.now in
    let low : life < n = omega (arith, c.loop-life-test.true, c.count-life-end.ensures.value) in
    let i = c.loop-life.invariant in
    elim c.if-has_bit.branch [
      | then-has_bit w ↦
          let there : has_bit set life ≡ true = sym c.has_bit.ensures ∙ w.if-has_bit.true in
          let first : EnclosesFirst Even n numbers set life w.as_first.result =
          rw c.requires.rule at w.as_first.ensures.first in
          record {
            count = omega (arith, w.count-is, i.count, count-with n numbers set life low true there);
            few = omega (arith, w.count-is, i.few);
            within = rw (w.sum-is, w.count-is) (record {
              low = omega (arith, ints, w.add-sum.ensures.lo, i.within.low, first.within.low);
              high = omega (arith, ints, w.add-sum.ensures.hi, i.within.high, first.within.high);
            });
            low = rw (w.sum-is, w.count-is) (omega (arith, ints, w.add-sum.ensures.lo, i.low, first.low));
            part = rw w.sum-is (sum-with n numbers set life c.loop-life.sum w.as_first.result
                w.add-sum.result low there first w.add-sum.ensures.encloses w.add-sum.ensures.narrow i.part);
            cost = omega (arith, w.steps-is, w.count-is, w.as_first.ensures.cost, i.cost);
          }
      | else-has_bit w ↦
          let gone : has_bit set life ≡ false = sym c.has_bit.ensures ∙ w.if-has_bit.false in
          record {
            count = omega (arith, w.count-is, i.count, count-with n numbers set life low false gone);
            few = omega (arith, w.count-is, i.few);
            within = rw (w.sum-is, w.count-is) i.within;
            low = rw (w.sum-is, w.count-is) i.low;
            part = rw w.sum-is (sum-without n numbers set life c.loop-life.sum low gone i.part);
            cost = omega (arith, w.steps-is, w.count-is, i.cost);
          }
    ]

pub divide-requires : goal.divide-requires
divide-requires g c =
    let n = g.row.N in
    let end : c.loop-life.life ≡ n = omega (arith, c.loop-life-test.false, c.count-life-end.ensures.value) in
    let below : c.args.set < 2 ^ n = omega (arith, c.requires.below, c.requires.sets) in
    let count : c.loop-life.count ≡ length (filter (in_set (bits n c.args.set)) (numbers_from 0 n)) =
    rw end at c.loop-life.invariant.count in
    let some : 1 ≤ c.loop-life.count =
    omega (arith, count, size-of-lives n c.args.set, size-some n c.args.set c.requires.some below) in
    record { from = c.loop-life.invariant.within.low; some = some }

pub returns-clause-leaving : goal.returns-clause-leaving
returns-clause-leaving g c =
    let n = g.row.N in
    let numbers = numbers_of c.args.self.now c.args.year.now in
    let end : c.loop-life.life ≡ n = omega (arith, c.loop-life-test.false, c.count-life-end.ensures.value) in
    let below : c.args.set < 2 ^ n = omega (arith, c.requires.below, c.requires.sets) in
    let count : c.loop-life.count ≡ length (filter (in_set (bits n c.args.set)) (numbers_from 0 n)) =
    rw end at c.loop-life.invariant.count in
    let some : 1 ≤ c.loop-life.count =
    omega (arith, count, size-of-lives n c.args.set, size-some n c.args.set c.requires.some below) in
    let part : IsSumTo n numbers c.args.set n c.loop-life.sum = rw end at c.loop-life.invariant.part in
    let cut : IsCut c.divide.result c.clamp.result =
    record { lo = c.clamp.ensures.lo; hi = c.clamp.ensures.hi; encloses = c.clamp.ensures.encloses } in
    evenly-enclosed n numbers
    c.args.set c.requires.years.parts c.loop-life.count count some c.loop-life.sum c.divide.result c.clamp.result part
    c.divide.ensures.from c.divide.ensures.encloses c.divide.ensures.narrow cut

pub returns-clause-cost : goal.returns-clause-cost
returns-clause-cost g c =
    let n = g.row.N in
    let end : c.loop-life.life ≡ n = omega (arith, c.loop-life-test.false, c.count-life-end.ensures.value) in
    let count : c.loop-life.count ≡ length (filter (in_set (bits n c.args.set)) (numbers_from 0 n)) =
    rw end at c.loop-life.invariant.count in
    omega (arith, count, size-of-lives n c.args.set, c.loop-life.invariant.cost)
