-- The nodes that were counted and those of the members that are left are all nodes.
use Rattle.std.proofs.Common.{◌≡◌, ◌+◌, drop}
use Rattle.halo_status.specs.Nodes.{nodes_in, AtEachNodeIn, HasShortList}
use Rattle.halo_status.specs.StatusTree.{trees_in}
use Rattle.halo_status.proofs.status.+counting.Given as goal

abbrev pub invariant-nodes_of-loop-member : goal.invariant-nodes_of-loop-member
invariant-nodes_of-loop-member l =
    (l.count + nodes_in (trees_in (drop l.member-index l.members)) ≡ nodes_in (trees_in l.members))
    × (AtEachNodeIn HasShortList (trees_in (drop l.member-index l.members)) → AtEachNodeIn HasShortList
    (trees_in l.members))
