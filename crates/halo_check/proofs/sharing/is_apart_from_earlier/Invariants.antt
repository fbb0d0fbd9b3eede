-- The members before the one at hand share nothing with the later one.
use Rattle.std.proofs.Common.{ℕ, ◌<◌}
use Rattle.halo_status.specs.StatusTree.{trees_in}
use Rattle.halo_check.specs.Sharing.{AreApartAt}
use Rattle.halo_check.proofs.sharing.is_apart_from_earlier.Given as goal

abbrev pub invariant-loop-earlier : goal.invariant-loop-earlier
invariant-loop-earlier l = (earlier : ℕ) → earlier < l.earlier → AreApartAt (trees_in l.members) earlier l.later
