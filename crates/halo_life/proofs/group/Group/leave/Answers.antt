use Rattle.std.proofs.Common.{◌<◌, ◌≤◌, length, arith}
use Rattle.halo_sums.specs.Masks.{has_bit}
use Rattle.halo_num.specs.Chance.{EnclosesChance}
use Rattle.halo_model.specs.Chance.{asked}
use Rattle.halo_life.proofs.AlongTree.{leavers-is, started-is}
use Rattle.halo_life.proofs.group.Group.leave.Goals as goal

pub ratio-requires-clause-proper : goal.ratio-requires-clause-proper
ratio-requires-clause-proper g c =
    let from : c.start.result ≤ c.args.k = rw c.start.ensures.value c.requires.from in
    let falls = c.survivors-alive.ensures.falling c.start.result from in
    omega (arith, falls, c.survivors-alive.ensures.value, c.leavers.ensures.part, c.survivors.ensures.value)

pub returns-clause-along_tree : goal.returns-clause-along_tree
returns-clause-along_tree g c = λ alive.
    let group = c.args.self.now in
    let low : c.args.i < length group.lives = omega (arith, c.requires.life, c.alive.ensures.group.count) in
    let chance : EnclosesChance c.leavers.result c.survivors.result 1 c.ratio.result =
    record { encloses = c.ratio.ensures.encloses; narrow = c.ratio.ensures.narrow; within = c.ratio.ensures.within } in
    rw (
      leavers-is group.file (asked c.args.causes) c.args.k group.lives c.args.i low,
      started-is group.file group.start (has_bit group.alive) group.lives c.args.i low,
      alive,
    )
    (rw (c.leavers.ensures.value, c.survivors.ensures.value, c.start.ensures.value) at chance)
