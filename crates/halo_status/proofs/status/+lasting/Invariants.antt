-- The members that are left decide whether all are lasting.
use Rattle.std.proofs.Common.{drop}
use Rattle.std.specs.Prelude.{◌↔◌}
use Rattle.halo_status.specs.Nodes.{AtEachNodeIn, NeverReturns}
use Rattle.halo_status.specs.StatusTree.{trees_in}
use Rattle.halo_status.proofs.status.+lasting.Given as goal

abbrev pub invariant-are_lasting-loop-member : goal.invariant-are_lasting-loop-member
invariant-are_lasting-loop-member l =
    AtEachNodeIn NeverReturns (trees_in (drop l.member-index l.members)) ↔ AtEachNodeIn NeverReturns
    (trees_in l.members)
