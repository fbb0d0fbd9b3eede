use Rattle.std.proofs.Common.{arith, add-one}
use Rattle.halo_along.proofs.LookedAt.{looked-at-put, none-looked-at}
use Rattle.halo_along.proofs.LivesAtTime.{chance-put, no-chances}
use Rattle.halo_along.proofs.leaving.looked_at.Goals as goal

pub loop-i-init : goal.loop-i-init
loop-i-init g c = record {
  chances = no-chances 12 c.exact-lives.result c.exact-lives.ensures.lo c.exact-lives.ensures.hi (omega arith);
  looked_at = none-looked-at c.args.group.now c.args.life c.args.k _;
}

pub loop-i-preserved : goal.loop-i-preserved
loop-i-preserved g c =
    let is = c.loop-i.invariant in
    rw c.from.ensures (record {
      chances = chance-put 12 c.loop-i.lives c.loop-i.i c.survive.result (omega arith)
          c.survive.ensures.along_tree.within is.chances;
      looked_at = looked-at-put c.args.group.now c.args.life c.args.k g.row.N c.start-start.ensures.group
          c.requires.life c.loop-i.i c.time_looked_at.result c.loop-i.lives c.survive.result c.loop-i-test.true
          (omega (arith, is.chances.room)) (rw add-one at c.time_looked_at.ensures.time)
          c.survive.ensures.along_tree is.looked_at;
    })
