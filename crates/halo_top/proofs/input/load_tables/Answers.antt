use Rattle.std.proofs.Common.{◌≤◌, length, arith}
use Rattle.halo_table.specs.declared.held.TheConstants.{LONGEST_FILE}
use Rattle.halo_top.specs.Input.{HasTables}
use Rattle.halo_top.proofs.Told.{told}
use Rattle.halo_top.proofs.input.load_tables.Goals as goal

pub returns-clause-tables : goal.returns-clause-tables
returns-clause-tables g c =
    let read = rw c.deref.ensures.value at c.in_ok-read.ensures in
    let short : length c.in_ok-bytes.bytes.items ≤ LONGEST_FILE
    = omega (arith, c.in_ok-bytes.bytes.ok.0, c.in_ok-bytes.ensures.bytes.0) in
    told _ c.in_ok-bytes.bytes.items (λ all. HasTables all c.in_ok-read.field-0) c.in_ok-bytes.ensures.bytes.1
    (record { in_order = record { short = short; fine = read.0 }; tables_are = read.1 })
