-- The table is that of the members that were seen, but the one that is left out.
use Rattle.std.proofs.Common.{true}
use Rattle.halo_status.specs.Nodes.{nodes_in}
use Rattle.halo_status.specs.StatusTree.{trees_in}
use Rattle.halo_status.specs.View.{is_on}
use Rattle.halo_chance.specs.Cost.{CostsMembers}
use Rattle.halo_chance.specs.Enclosed.{EachIsChance}
use Rattle.halo_chance.specs.Table.{IsTable}
use Rattle.halo_chance.proofs.Others.{others_from}
use Rattle.halo_chance.proofs.mark.others_at.Given as goal

abbrev pub invariant-loop-i : goal.invariant-loop-i
invariant-loop-i g l =
    IsTable l.lives (is_on l.view l.t) true l.place (others_from l.members l.member l.i) l.table
    × EachIsChance 18 l.table
    × CostsMembers l.fn.steps l.steps (nodes_in (others_from l.members l.member l.i)) (nodes_in (trees_in l.members))
