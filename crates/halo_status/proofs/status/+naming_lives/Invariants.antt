-- A life is named where it was found or where a member that is left names it.
use Rattle.std.proofs.Common.{◌≡◌, ℕ, ◌||◌, drop}
use Rattle.halo_sums.specs.Masks.{has_bit}
use Rattle.halo_status.specs.Naming.{any_names_life}
use Rattle.halo_status.specs.StatusTree.{trees_in}
use Rattle.halo_status.proofs.status.+naming_lives.Given as goal

abbrev pub invariant-lives_of-loop-member : goal.invariant-lives_of-loop-member
invariant-lives_of-loop-member l =
    (i : ℕ)
    → (has_bit l.lives i || any_names_life i (trees_in (drop l.member-index l.members)))
    ≡ any_names_life i (trees_in l.members)
