-- The numbers before this one are written.
use Rattle.std.proofs.Common.{◌≡◌, ℕ, ◌<◌, get_or, length}
use Rattle.halo_sums.specs.Choices.{choose}
use Rattle.halo_poly.proofs.survivors.binomials.Given as goal

abbrev pub invariant-loop-c : goal.invariant-loop-c
invariant-loop-c l =
    record {
      room : length l.row ≡ 17;
      numbers : (k : ℕ) → k < l.c → get_or l.row k 0 ≡ choose k l.j;
    }
