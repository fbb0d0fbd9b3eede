use Rattle.std.proofs.Common.{◌≡◌, ◌≤◌, ◌<◌, ℕ, length, true, false}
use Rattle.csv.specs.Records.{fields_of}
use Rattle.halo_text.specs.Number.{IsNumber}
use Rattle.halo_table.specs.Record.{field}
use Rattle.halo_table.specs.Faults.{HasLarge}
use Rattle.halo_table.specs.Reading.{AreNumbers}
use Rattle.halo_table.proofs.row.read_numbers.Given as goal

abbrev pub invariant-loop-place : goal.invariant-loop-place
invariant-loop-place l =
    ((j : ℕ) → 1 ≤ j → j < l.place → IsNumber (field (fields_of l.row) j))
    × (l.large ≡ true → HasLarge l.place (fields_of l.row))
    × (l.large ≡ false → AreNumbers l.place (fields_of l.row) l.numbers)
    × (length l.numbers ≡ 11)
