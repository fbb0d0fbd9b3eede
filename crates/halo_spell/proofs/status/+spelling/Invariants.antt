-- The measures are nodes: each call goes down in the tree. The members that were written and those that are left are
-- all members.
use Rattle.std.proofs.Common.{◌≡◌, ◌+◌, ◌*◌, ◌++◌, drop}
use Rattle.halo_contract.specs.PlainContract.{life_names}
use Rattle.halo_status.specs.Nodes.{nodes, nodes_in}
use Rattle.halo_status.specs.StatusTree.{tree_of, trees_in}
use Rattle.halo_spell.proofs.MembersLeft.{left_from}
use Rattle.halo_spell.proofs.status.+spelling.Given as goal

abbrev pub decreases-write_status : goal.decreases-write_status
decreases-write_status l = 3 * nodes (tree_of l.status.now)

abbrev pub decreases-write_reversion : goal.decreases-write_reversion
decreases-write_reversion l = 3 * (nodes (tree_of l.first.now) + nodes (tree_of l.then.now)) + 1

abbrev pub decreases-write_bracketed : goal.decreases-write_bracketed
decreases-write_bracketed l = 3 * nodes_in (trees_in l.members.now) + 2

abbrev pub decreases-write_members : goal.decreases-write_members
decreases-write_members l = 3 * nodes_in (trees_in l.members.now) + 1

abbrev pub invariant-write_members-loop-place : goal.invariant-write_members-loop-place
invariant-write_members-loop-place l =
    l.into.items ++ left_from (life_names l.lives) l.mark l.place (drop l.place l.members)
    ≡ l.fn.into.items ++ left_from (life_names l.lives) l.mark 0 l.members
