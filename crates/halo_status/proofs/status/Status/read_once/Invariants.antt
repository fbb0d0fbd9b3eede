-- The lives that were looked at stand at most once, and those whose numbers are too large for a byte nowhere.
use Rattle.std.proofs.Common.{ℕ, ◌<◌, ◌≤◌}
use Rattle.halo_status.specs.ReadOnce.{standings}
use Rattle.halo_status.specs.StatusTree.{tree_of}
use Rattle.halo_status.proofs.status.Status.read_once.Given as goal

abbrev pub invariant-loop-i : goal.invariant-loop-i
invariant-loop-i l =
    ((j : ℕ) → j < l.i → standings j (tree_of l.self) ≤ 1)
    × ((j : ℕ) → 0 < l.i → 255 < j → standings j (tree_of l.self) ≤ 1)
