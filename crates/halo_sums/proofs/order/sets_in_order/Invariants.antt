-- The sets so far and those of the sizes that are left make all sets.
use Rattle.std.proofs.Common.{◌≡◌, ◌++◌, ◌<◌, ◌^◌, All, map}
use Rattle.halo_sums.specs.Masks.{bits}
use Rattle.halo_sums.specs.SetsInOrder.{sets_in_order}
use Rattle.halo_sums.proofs.SetsInOrder.{sets_from}
use Rattle.halo_sums.proofs.order.sets_in_order.Given as goal

abbrev pub invariant-loop-size : goal.invariant-loop-size
invariant-loop-size l = record {
  sets : map (bits l.count) l.sets.items ++ sets_from l.count l.size ≡ sets_in_order l.count;
  below : All (λ set. set < 2 ^ l.count) l.sets.items;
}
