use Rattle.std.proofs.Common.{◌≤◌, ◌<◌, ℕ}
use Rattle.csv.specs.Records.{fields_of}
use Rattle.halo_text.specs.Name.{IsName}
use Rattle.halo_table.specs.Record.{field}
use Rattle.halo_table.proofs.fields.are_names.Given as goal

abbrev pub invariant-loop-place : goal.invariant-loop-place
invariant-loop-place l = (j : ℕ) → 3 ≤ j → j < l.place → IsName (field (fields_of l.fields) j)
