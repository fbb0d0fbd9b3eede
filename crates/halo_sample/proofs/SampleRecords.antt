-- The lines of the tables file are those of its records.
use Rattle.std.proofs.Common.{◌≡◌, ℕ, zero, suc, List, [], ◌∷◌, ◌++◌, append_assoc, ap, map, refl, sym, ◌∙◌}
use Rattle.std.specs.Prelude.{flat_map}
use Rattle.std.proofs.lemmas.Grind.{flat_map-append}
use Rattle.halo_sample.specs.declared.tables.Row.{Row}
use Rattle.halo_sample.specs.declared.tables.TheConstants.{LAST_AGE, TABLES}
use Rattle.halo_sample.specs.Generator.{state_behind_pairs}
use Rattle.halo_sample.specs.Laws.{TablesAreRecords}
use Rattle.halo_sample.specs.Records.{record_line, records_from, row_fields}
use Rattle.halo_sample.specs.Tables.{header, row_line, table_rows, tables_from}

-- the line of a row
row-record : (table : ℕ) (row : Row) → row_line table row ≡ record_line (row_fields table row)
unfolding row_line
row-record table row = simp append_assoc refl

-- the lines of some rows
rows-records : (table : ℕ) (rows : List Row)
    → flat_map (row_line table) rows ≡ flat_map record_line (map (row_fields table) rows)
rows-records table [] = refl
rows-records table (row ∷ rows) =
    ap (λ text. text ++ flat_map (row_line table) rows) (row-record table row)
    ∙ ap (λ text. record_line (row_fields table row) ++ text) (rows-records table rows)

-- the lines of some tables
tables-records : (left table s : ℕ) → tables_from left table s ≡ flat_map record_line (records_from left table s)
unfolding tables_from records_from
tables-records zero table s = refl
tables-records (suc left) table s =
    let behind = state_behind_pairs LAST_AGE s in
    let here = map (row_fields table) (table_rows s) in
    ap (λ text. text ++ tables_from left (suc table) behind) (rows-records table (table_rows s))
    ∙ ap (λ text. flat_map record_line here ++ text) (tables-records left (suc table) behind)
    ∙ sym (flat_map-append record_line here (records_from left (suc table) behind))

pub tables-are-records : TablesAreRecords
tables-are-records number = ap (λ text. header ++ text) (tables-records TABLES 0 number)
