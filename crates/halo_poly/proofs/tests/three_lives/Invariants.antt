-- The lives before this one are on the list.
use Rattle.std.proofs.Common.{◌≡◌, ℕ, length}
use Rattle.halo_poly.specs.Symmetric.{AreOfStatuses}
use Rattle.halo_poly.proofs.tests.three_lives.Given as goal

abbrev pub invariant-loop-life : goal.invariant-loop-life
invariant-loop-life l =
    record {
      count : length l.lives.items ≡ l.life;
      statuses : (n : ℕ) → AreOfStatuses n l.lives.items;
    }
