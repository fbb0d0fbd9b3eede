-- A life is named where it was found or where a member that is left names it.
use Rattle.std.proofs.Common.{◌≡◌, ℕ, ◌<◌, ◌||◌, drop}
use Rattle.halo_sums.specs.Masks.{has_bit}
use Rattle.halo_status.specs.Naming.{any_names_life}
use Rattle.halo_status.specs.StatusTree.{trees_in}
use Rattle.halo_compile.proofs.naming.+naming.Given as goal

abbrev pub invariant-lives_of_members-loop-i : goal.invariant-lives_of_members-loop-i
invariant-lives_of_members-loop-i l =
    (i : ℕ) → i < 16 → (has_bit l.named i || any_names_life i (trees_in (drop l.i l.members)))
    ≡ any_names_life i (trees_in l.members)
