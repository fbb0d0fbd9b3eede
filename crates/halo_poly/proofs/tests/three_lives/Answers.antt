-- Three lives have eight sets, and each is a status.
use Rattle.std.proofs.Common.{◌+◌, ◌<◌, ◌^◌, arith, refl, rules, ap, ◌∙◌, length}
use Rattle.std.proofs.Math.Pow.{pow-lt}
use Rattle.halo_sums.specs.Sets.{in_set}
use Rattle.halo_poly.proofs.Counted.{length-one_added, of_status, one_status_more}
use Rattle.halo_poly.proofs.tests.three_lives.Goals as goal

pub zero-requires : goal.zero-requires
zero-requires c = (search rules, record { lives = 3; some = omega arith; few = omega arith; is = refl })

pub set_life-requires : goal.set_life-requires
set_life-requires c =
    let few : c.loop-life.life < 3 = omega arith in
    let below : 2 ^ c.loop-life.life < 2 ^ 3 = pow-lt few in
    (search rules, below)

pub loop-life-preserved : goal.loop-life-preserved
loop-life-preserved c = record {
  count =
      ap length c.in_ok-push.ensures.items
      ∙ length-one_added c.loop-life.lives.items _
      ∙ ap (λ n. n + 1) c.loop-life.invariant.count;
  statuses =
      λ n.
      rw c.in_ok-push.ensures.items
      (one_status_more n c.loop-life.lives.items _ (c.loop-life.invariant.statuses n)
      (of_status n _ (λ s. in_set s c.loop-life.life) c.set_life.ensures.values));
}
