use Rattle.std.proofs.Common.{arith, map}
use Rattle.halo_sums.specs.Masks.{bits}
use Rattle.halo_sums.proofs.SetsInOrder.{next-size}
use Rattle.halo_sums.proofs.order.sets_in_order.Goals as goal

pub loop-size-preserved : goal.loop-size-preserved
loop-size-preserved c = record {
  sets = next-size c.args.count c.loop-size.size (map (bits c.args.count) c.loop-size.sets.items)
      (map (bits c.args.count) c.push_sets_with.new.into.items) _ (omega (arith, c.loop-size-test.true))
      c.in_ok-push_sets_with.ensures.sets c.loop-size.invariant.sets;
  below = c.in_ok-push_sets_with.ensures.below c.loop-size.invariant.below;
}
