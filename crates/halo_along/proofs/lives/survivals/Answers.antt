use Rattle.std.proofs.Common.{arith}
use Rattle.halo_along.proofs.LivesAtTime.{chance-put, no-chances, no-survivals, survival-put}
use Rattle.halo_along.proofs.lives.survivals.Goals as goal

pub loop-i-init : goal.loop-i-init
loop-i-init g c = record {
  chances = no-chances 12 c.exact-survivals.result c.exact-survivals.ensures.lo c.exact-survivals.ensures.hi
      (omega arith);
  survivals = no-survivals c.args.group.now c.args.t _;
}

pub loop-i-preserved : goal.loop-i-preserved
loop-i-preserved g c =
    let is = c.loop-i.invariant in
    rw c.from.ensures (record {
      chances = chance-put 12 c.loop-i.survivals c.loop-i.i c.survive.result (omega arith)
          c.survive.ensures.along_tree.within is.chances;
      survivals = survival-put c.args.group.now c.args.t c.loop-i.i c.loop-i.survivals c.survive.result
          (omega (arith, is.chances.room)) c.survive.ensures.along_tree is.survivals;
    })
