use Rattle.std.proofs.Common.{ℕ, ◌<◌, length, ◌≡◌}
use Rattle.halo_sums.specs.Masks.{has_bit}
use Rattle.halo_model.specs.Chance.{asked}
use Rattle.halo_model.specs.FromTables.{lives_of}
use Rattle.halo_model.specs.OrderLaws.{year_numbers}
use Rattle.halo_life.specs.YearOfLives.{EnclosesYear, year_at}
use Rattle.halo_life.proofs.group.Group.year_of_lives.Given as goal

abbrev pub invariant-loop-i : goal.invariant-loop-i
invariant-loop-i g l = record {
  room : length l.lives ≡ 12;
  each : (i : ℕ) → i < l.i
      → EnclosesYear
      ((year_numbers (has_bit l.counted) (asked l.causes) (lives_of l.self.file l.self.lives) l.k).leaving i)
      ((year_numbers (has_bit l.counted) (asked l.causes) (lives_of l.self.file l.self.lives) l.k).staying i)
      ((year_numbers (has_bit l.counted) (asked l.causes) (lives_of l.self.file l.self.lives) l.k).alive i)
      (year_at l.lives i);
}
