-- The members that are left decide whether all have ranks.
use Rattle.std.proofs.Common.{drop}
use Rattle.std.specs.Prelude.{◌↔◌}
use Rattle.halo_status.specs.Nodes.{AtEachNodeIn}
use Rattle.halo_status.specs.StatusTree.{trees_in}
use Rattle.halo_status.specs.ValidPay.{HasRank}
use Rattle.halo_check.proofs.ranks.+ranks.Given as goal

abbrev pub invariant-have_ranks-loop-place : goal.invariant-have_ranks-loop-place
invariant-have_ranks-loop-place l =
    AtEachNodeIn HasRank (trees_in (drop l.place l.members)) ↔ AtEachNodeIn HasRank (trees_in l.members)
