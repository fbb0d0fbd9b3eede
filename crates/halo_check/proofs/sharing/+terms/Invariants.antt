-- The members that are left decide whether a term is shared.
use Rattle.std.proofs.Common.{drop}
use Rattle.std.specs.Prelude.{◌↔◌}
use Rattle.halo_status.specs.StatusTree.{tree_of, trees_in}
use Rattle.halo_check.specs.Sharing.{ShareNoTerm}
use Rattle.halo_check.proofs.sharing.+terms.Given as goal

abbrev pub invariant-share_no_term-loop-place : goal.invariant-share_no_term-loop-place
invariant-share_no_term-loop-place l =
    ShareNoTerm (trees_in (drop l.place l.members)) (tree_of l.other) ↔ ShareNoTerm (trees_in l.members)
    (tree_of l.other)
