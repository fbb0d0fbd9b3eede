-- Values to which payments with a chance are added.
use Rattle.std.specs.Prelude.{ℕ, ◌+◌, ◌*◌, pos, ◌≤ℤ◌}
use Rattle.halo_num.specs.Ends.{Ends, HasWidth, fine}
use Rattle.halo_num.specs.Enclosure.{Encloses}

-- so many payments with a chance are added
pub record AddsPayments (count : ℕ) (chance before result : Ends) : Type 0 where
  pub from : pos 0 ≤ℤ result.lo
  pub bound : (m : ℕ) → before.hi ≤ℤ pos (m * fine) → result.hi ≤ℤ pos ((m + count) * fine)
  pub narrow : (v w : ℕ)
      → HasWidth before v → HasWidth chance w → HasWidth result (v + count * w)
  pub encloses : (m n d : ℕ) → Encloses before (pos m) d
      → Encloses chance (pos n) d → Encloses result (pos (m + count * n)) d
