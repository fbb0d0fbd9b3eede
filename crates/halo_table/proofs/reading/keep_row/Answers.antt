use Rattle.std.proofs.Common.{map, refl, ◌∙◌}
use Rattle.csv.specs.Records.{fields_of}
use Rattle.halo_table.specs.Reading.{IsLastName}
use Rattle.halo_table.specs.Record.{field}
use Rattle.halo_table.specs.Seen.{seen_row, seen_table}
use Rattle.halo_table.proofs.Groups.{keeps_last, keeps_new, table_of_one}
use Rattle.halo_table.proofs.Walk.{ok_then}
use Rattle.halo_table.proofs.reading.keep_row.Goals as goal

pub returns-then-is_last : goal.returns-then-is_last
returns-then-is_last c =
    let last = rw (c.cell.ensures, c.deref.ensures.value) at (c.if-is_last.ensures.0 refl) in
    let written = c.row_from-kept.ensures (fields_of c.args.row.now) c.requires.numbers in
    ok_then c.add_to_last.result c.add_to_last.ensures
    (λ is rows e. keeps_last _ _ _ (fields_of c.args.row.now) rows is written last e)

pub returns : goal.returns
returns c =
    let other : IsLastName (map seen_table c.args.tables.now.items)
    (field (fields_of c.args.row.now) 0)
    → ⊥ =
    (λ l. cc (c.if-is_last.ensures.1 (rw (c.cell.ensures, c.deref.ensures.value) l))) in
    let written = c.row_from-kept.ensures (fields_of c.args.row.now) c.requires.numbers in
    let one =
    table_of_one (fields_of c.args.row.now) c.in-Some.name c.args.numbers.now
    (seen_row c.row_from-kept.result) c.args.width c.requires.low c.requires.numbers
    (c.in-Some.ensures.name.1 ∙ c.cell-2.ensures) written in
    ok_then c.begin_table.result c.begin_table.ensures
    (λ is rows e. keeps_new _ _ _ (fields_of c.args.row.now) rows is one other e)
