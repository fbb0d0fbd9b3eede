use Rattle.std.proofs.Common.{refl, arith, ◌+◌, ◌∙◌}
use Rattle.halo_chance.proofs.Tables.{entry-read, first-stays, grows-more, grows-none, chances-more}
use Rattle.halo_chance.proofs.table.with_member.Goals as goal

pub loop-rank-init : goal.loop-rank-init
loop-rank-init g c = (refl, grows-none c.args.chance c.args.others.now, c.requires.others, omega arith)

pub loop-rank-preserved : goal.loop-rank-preserved
loop-rank-preserved g c = (
  first-stays c.loop-rank.table c.loop-rank.rank c.mix.result ∙ c.loop-rank.invariant.0,
  grows-more c.args.chance c.loop-rank.rank c.args.others.now c.loop-rank.table c.mix.result
      (omega (arith, c.requires.top, c.loop-rank-test.true, c.loop-rank.invariant.2.room)) c.loop-rank.invariant.1
      (λ s d x y e u w positive p q r.
      c.mix.ensures.chance s d x y e u w positive p
      (rw (entry-read c.args.others.now c.loop-rank.rank c.index-others-rank.result
      (omega (arith, c.requires.top, c.loop-rank-test.true, c.requires.others.room))) at q)
      (rw (entry-read c.args.others.now (c.loop-rank.rank + 1) c.index-others-rank-in-loop-rank.result
      (omega (arith, c.requires.top, c.loop-rank-test.true, c.requires.others.room))) at r)),
  chances-more 18 c.loop-rank.table c.loop-rank.rank c.mix.result c.loop-rank.invariant.2
      (omega (arith, c.requires.top, c.loop-rank-test.true)) c.mix.ensures.within,
  omega (arith, c.mix.ensures.cost, c.loop-rank.invariant.3),
)
