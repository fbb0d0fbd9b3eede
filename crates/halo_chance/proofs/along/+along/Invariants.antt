-- The measures are nodes: each call goes down in the tree. A loop has the chance of the members that it has seen, from
-- the last one on.
use Rattle.std.proofs.Common.{◌+◌, ◌*◌, drop, pos}
use Rattle.halo_num.specs.Ends.{IsWithin, fine}
use Rattle.halo_status.specs.Nodes.{nodes, nodes_in}
use Rattle.halo_status.specs.StatusTree.{tree_of, trees_in}
use Rattle.halo_status.specs.View.{is_on}
use Rattle.halo_model.specs.ByTree.{weight_of_all, weight_of_none}
use Rattle.halo_chance.specs.Cost.{CostsMembers}
use Rattle.halo_chance.specs.Enclosed.{EachIsChance, EnclosesMembers}
use Rattle.halo_chance.specs.Table.{IsTable}
use Rattle.halo_chance.proofs.along.+along.Given as goal

abbrev pub decreases-along : goal.decreases-along
decreases-along g l = 2 * nodes (tree_of l.body.now)

abbrev pub decreases-all_along : goal.decreases-all_along
decreases-all_along g l = 2 * nodes_in (trees_in l.members.now) + 1

abbrev pub decreases-none_along : goal.decreases-none_along
decreases-none_along g l = 2 * nodes_in (trees_in l.members.now) + 1

abbrev pub decreases-at_rank : goal.decreases-at_rank
decreases-at_rank g l = 2 * nodes_in (trees_in l.members.now) + 1

abbrev pub invariant-all_along-loop-i : goal.invariant-all_along-loop-i
invariant-all_along-loop-i g l =
    EnclosesMembers l.lives (trees_in (drop l.i l.members))
    (λ n d. weight_of_all n d (is_on l.view l.t) (trees_in (drop l.i l.members))) l.all
    × IsWithin l.all (pos 0) (pos fine)
    × CostsMembers l.fn.steps l.steps (nodes_in (trees_in (drop l.i l.members))) (nodes_in (trees_in l.members))

abbrev pub invariant-none_along-loop-i : goal.invariant-none_along-loop-i
invariant-none_along-loop-i g l =
    EnclosesMembers l.lives (trees_in (drop l.i l.members))
    (λ n d. weight_of_none n d (is_on l.view l.t) (trees_in (drop l.i l.members))) l.none
    × IsWithin l.none (pos 0) (pos fine)
    × CostsMembers l.fn.steps l.steps (nodes_in (trees_in (drop l.i l.members))) (nodes_in (trees_in l.members))

abbrev pub invariant-at_rank-loop-i : goal.invariant-at_rank-loop-i
invariant-at_rank-loop-i g l =
    IsTable l.lives (is_on l.view l.t) l.exact l.place (trees_in (drop l.i l.members)) l.table
    × EachIsChance 18 l.table
    × CostsMembers l.fn.steps l.steps (nodes_in (trees_in (drop l.i l.members))) (nodes_in (trees_in l.members))
