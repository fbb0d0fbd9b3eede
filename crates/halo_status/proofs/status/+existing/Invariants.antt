-- The members that were counted and those that are left together are all that exist.
use Rattle.std.proofs.Common.{◌≡◌, ◌+◌, drop}
use Rattle.halo_status.specs.Exists.{each_exists}
use Rattle.halo_sums.specs.Sums.{count_true}
use Rattle.halo_sums.specs.Masks.{has_bit}
use Rattle.halo_status.specs.StatusTree.{trees_in}
use Rattle.halo_status.specs.View.{is_on}
use Rattle.halo_status.proofs.status.+existing.Given as goal

abbrev pub invariant-count_existing-loop-member : goal.invariant-count_existing-loop-member
invariant-count_existing-loop-member l =
    l.count + count_true (each_exists (has_bit l.alive) (is_on l.view l.t) (trees_in (drop l.member-index l.members)))
    ≡ count_true (each_exists (has_bit l.alive) (is_on l.view l.t) (trees_in l.members))
