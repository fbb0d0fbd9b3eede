-- The members before the one at hand share nothing with those before them.
use Rattle.std.proofs.Common.{ℕ, ◌<◌}
use Rattle.halo_status.specs.StatusTree.{trees_in}
use Rattle.halo_check.specs.Sharing.{IsApartAt}
use Rattle.halo_check.proofs.sharing.are_apart.Given as goal

abbrev pub invariant-loop-later : goal.invariant-loop-later
invariant-loop-later l = (later : ℕ) → later < l.later → IsApartAt (trees_in l.members) later
