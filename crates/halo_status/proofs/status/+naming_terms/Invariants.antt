-- The members that are left decide whether the term is named.
use Rattle.std.proofs.Common.{◌≡◌, drop}
use Rattle.halo_status.specs.Naming.{any_names_term}
use Rattle.halo_status.specs.StatusTree.{trees_in}
use Rattle.halo_status.proofs.status.+naming_terms.Given as goal

abbrev pub invariant-any_has_term-loop-member : goal.invariant-any_has_term-loop-member
invariant-any_has_term-loop-member l =
    any_names_term l.n (trees_in (drop l.member-index l.members)) ≡ any_names_term l.n (trees_in l.members)
