-- The standings that were counted and those in the members that are left are all, up to 255, and the members that are
-- left tell whether a larger number stands anywhere.
use Rattle.std.proofs.Common.{◌≡◌, ℕ, ◌+◌, ◌<◌, ◌≤◌, drop}
use Rattle.std.specs.Prelude.{min}
use Rattle.halo_status.specs.ReadOnce.{standings_in}
use Rattle.halo_status.specs.StatusTree.{trees_in}
use Rattle.halo_status.proofs.status.+standing.Given as goal

abbrev pub invariant-standings_of-loop-member : goal.invariant-standings_of-loop-member
invariant-standings_of-loop-member l =
    (min 255 (l.count + standings_in l.i (trees_in (drop l.member-index l.members)))
    ≡ min 255 (standings_in l.i (trees_in l.members)))
    × (l.count ≤ 255)
    × ((j : ℕ)
    → 255 < j → standings_in j (trees_in (drop l.member-index l.members)) ≡ standings_in j (trees_in l.members))
