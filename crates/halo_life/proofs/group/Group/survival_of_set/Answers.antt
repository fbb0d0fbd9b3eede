use Rattle.std.proofs.Common.{◌^◌, ◌<◌, arith}
use Rattle.std.proofs.lemmas.Int.{ints}
use Rattle.halo_life.specs.YearOfLives.{EnclosesSurvival, EnclosesYear, numbers_of}
use Rattle.halo_life.proofs.OneSet.{chance-without, survival-with}
use Rattle.halo_life.proofs.Within.{bit-below}
use Rattle.halo_life.proofs.group.Group.survival_of_set.Goals as goal

pub of_life-requires : goal.of_life-requires
of_life-requires g c =
    let below : c.args.set < 2 ^ g.row.N = omega (arith, c.requires.below, c.requires.sets) in
    let low = bit-below g.row.N c.args.set c.first_of-first.result below c.first_of-first.ensures.within in
    omega (arith, low, c.count.ensures.group.few)

pub mul-requires : goal.mul-requires
mul-requires g c =
    let n = g.row.N in
    let first = c.first_of-first.result in
    let numbers = numbers_of c.args.self.now c.args.year.now in
    let below : c.args.set < 2 ^ n = omega (arith, c.requires.below, c.requires.sets) in
    let there = c.first_of-first.ensures.within in
    let rest = chance-without n c.args.set first below there
    (EnclosesSurvival n numbers) c.args.work.now.survivals c.without.result c.at-others.result
    c.requires.smaller c.without.ensures.value c.without.ensures.smaller c.at-others.ensures in
    let life : EnclosesYear (numbers.leaving first) (numbers.staying first) (numbers.alive first) c.of_life.result =
    rw (c.of_life.ensures) (c.requires.years.each first (bit-below n c.args.set first below there)) in
    record {
      self_from = rest.within.low;
      self_in = omega (arith, ints, rest.within.high);
      o_from = life.staying.within.low;
      o_in = omega (arith, ints, life.staying.within.high);
    }

pub returns-clause-survival : goal.returns-clause-survival
returns-clause-survival g c =
    let n = g.row.N in
    let first = c.first_of-first.result in
    let numbers = numbers_of c.args.self.now c.args.year.now in
    let below : c.args.set < 2 ^ n = omega (arith, c.requires.below, c.requires.sets) in
    let there = c.first_of-first.ensures.within in
    let rest = chance-without n c.args.set first below there
    (EnclosesSurvival n numbers) c.args.work.now.survivals c.without.result c.at-others.result
    c.requires.smaller c.without.ensures.value c.without.ensures.smaller c.at-others.ensures in
    let life : EnclosesYear (numbers.leaving first) (numbers.staying first) (numbers.alive first) c.of_life.result =
    rw (c.of_life.ensures) (c.requires.years.each first (bit-below n c.args.set first below there)) in
    survival-with n
    c.args.set first below there numbers c.at-others.result c.of_life.result.staying c.mul.result rest life.staying
    c.mul.ensures.chance
