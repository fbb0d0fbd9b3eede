use Rattle.std.proofs.Common.{◌^◌, ◌<◌, arith}
use Rattle.halo_life.specs.YearOfLives.{EnclosesLeaving, EnclosesYear, numbers_of}
use Rattle.halo_life.proofs.OneSet.{chance-without, first-with}
use Rattle.halo_life.proofs.group.Group.as_first.Goals as goal

pub leaves_or_stays-requires-clause-others : goal.leaves_or_stays-requires-clause-others
leaves_or_stays-requires-clause-others g c =
    let n = g.row.N in
    let below : c.args.set < 2 ^ n = omega (arith, c.requires.below, c.requires.sets) in
    let rest = chance-without n c.args.set c.args.life below c.requires.of_it (EnclosesLeaving c.args.self.now.ties n
    (numbers_of c.args.self.now c.args.year.now)) c.args.work.now.leavings c.without.result c.leaving-others.result
    c.requires.smaller c.without.ensures.value c.without.ensures.smaller c.leaving-others.ensures in
    rest.within

pub returns-clause-first : goal.returns-clause-first
returns-clause-first g c =
    let n = g.row.N in
    let life = c.args.life in
    let numbers = numbers_of c.args.self.now c.args.year.now in
    let below : c.args.set < 2 ^ n = omega (arith, c.requires.below, c.requires.sets) in
    let rest = chance-without n c.args.set life below c.requires.of_it (EnclosesLeaving c.args.self.now.ties n numbers)
    c.args.work.now.leavings c.without.result c.leaving-others.result
    c.requires.smaller c.without.ensures.value c.without.ensures.smaller c.leaving-others.ensures in
    let year : EnclosesYear (numbers.leaving life) (numbers.staying life) (numbers.alive life) c.of_life.result =
    rw (c.of_life.ensures) (c.requires.years.each life c.requires.life) in
    first-with n c.args.set life below c.requires.of_it
    numbers c.args.self.now.ties c.leaving-others.result c.leaves_or_stays.result c.of_life.result rest year
    c.leaves_or_stays.ensures.encloses
    c.leaves_or_stays.ensures.narrow c.leaves_or_stays.ensures.within c.leaves_or_stays.ensures.low
