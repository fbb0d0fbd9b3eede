use Rattle.std.proofs.Common.{◌≡◌, ◌≤◌, ◌*◌, take}
use Rattle.csv.specs.Records.{fields_of}
use Rattle.halo_table.specs.Record.{all_leavers}
use Rattle.halo_table.proofs.row.read_row.Given as goal

abbrev pub invariant-loop-place : goal.invariant-loop-place
invariant-loop-place l =
    (l.leaving ≡ all_leavers (take l.place (fields_of l.row)))
    × (l.leaving ≤ l.place * 1000000000000)
