use Rattle.std.proofs.Common.{◌<◌, nat_lt, arith}
use Rattle.halo_life.specs.PlainGroup.{survivors_in}
use Rattle.halo_life.proofs.Rows.{is-none, is-some, row-less, row-more}
use Rattle.halo_life.proofs.group.Group.with_row.Goals.{then-survivors-gt0, else-survivors-gt0}
use Rattle.halo_life.proofs.group.Group.with_row.Goals as goal

pub loop-i-preserved : goal.loop-i-preserved
loop-i-preserved g c =
    let few : c.loop-i.i < 16 =
    omega (arith, c.loop-i-test.true, c.count-i-end.ensures.value, c.count-i-end.ensures.group.few) in
    elim c.if-survivors-gt0.branch [
      | then-survivors-gt0 w ↦ rw w.alive-is
          (row-more (λ k. nat_lt 0 (survivors_in c.args.self.now c.args.t k)) c.loop-i.i c.loop-i.alive few
          (is-some c.survivors.result _ c.survivors.ensures.value w.if-survivors-gt0.true) c.loop-i.invariant)
      | else-survivors-gt0 w
          ↦ rw w.alive-is (row-less (λ k. nat_lt 0 (survivors_in c.args.self.now c.args.t k)) c.loop-i.i c.loop-i.alive
          (is-none c.survivors.result _ c.survivors.ensures.value w.if-survivors-gt0.false) c.loop-i.invariant)
    ]
