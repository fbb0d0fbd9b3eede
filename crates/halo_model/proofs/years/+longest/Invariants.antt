-- The measures are nodes: each call goes down in the tree.
use Rattle.std.proofs.Common.{◌≡◌, ◌+◌, ◌*◌, ◌≤◌, drop, max}
use Rattle.halo_status.specs.Nodes.{nodes, nodes_in}
use Rattle.halo_status.specs.StatusTree.{tree_of, trees_in}
use Rattle.halo_model.specs.FromTables.{lives_of}
use Rattle.halo_model.specs.Horizon.{longest_of, years_left_of}
use Rattle.halo_model.proofs.years.+longest.Given as goal

abbrev pub decreases-longest : goal.decreases-longest
decreases-longest l = 2 * nodes (tree_of l.body.now)

abbrev pub decreases-longest_of : goal.decreases-longest_of
decreases-longest_of l = 2 * nodes_in (trees_in l.members.now) + 1

abbrev pub invariant-longest_of-loop-i : goal.invariant-longest_of-loop-i
invariant-longest_of-loop-i l =
    (max l.years (longest_of (years_left_of (lives_of l.tables l.lives)) (trees_in (drop l.i l.members)))
    ≡ longest_of (years_left_of (lives_of l.tables l.lives)) (trees_in l.members)) × (l.years ≤ 200)
