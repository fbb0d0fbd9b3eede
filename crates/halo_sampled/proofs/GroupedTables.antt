-- The rows of a sample's tables, grouped by their names, are the tables that are drawn.
use Rattle.std.proofs.Common.{◌≡◌, ◌≢◌, ℕ, zero, suc, ◌+◌, ◌≤◌, List, [], ◌∷◌, ◌++◌, ap, arith, codes, false, inl, inr, map, refl, sym, ◌∙◌}
use Rattle.std.specs.Prelude.{All, bytes_eq, ⊤}
use Rattle.std.proofs.lemmas.Bool.{cases_Bool}
use Rattle.std.proofs.lemmas.List.Elements.{All-head, All-same, All-tail}
use Rattle.std.proofs.lemmas.Slice.Eq.{bytes_eq-Decides}
use Rattle.halo_records.specs.Records.{records_of}
use Rattle.halo_table.specs.DecrementTable.{DecrementTable}
use Rattle.halo_table.specs.Grouping.{grouped, tables_of, with_record, written_row}
use Rattle.halo_sample.specs.declared.tables.Row.{Row}
use Rattle.halo_sample.specs.declared.tables.TheConstants.{LAST_AGE, RADIX, TABLES}
use Rattle.halo_sample.specs.Generator.{state_behind_pairs}
use Rattle.halo_sample.specs.Records.{records_from, row_fields}
use Rattle.halo_sample.specs.Sample.{sample_tables}
use Rattle.halo_sample.specs.Tables.{rows_from, table_rows}
use Rattle.halo_sampled.specs.DrawnTables.{drawn_row, drawn_table, drawn_tables, tables_from}
use Rattle.halo_sampled.proofs.FineRows.{IsFineRow, rows-fine}
use Rattle.halo_sampled.proofs.NamesOfTables.{name_at, names-differ}
use Rattle.halo_spell.proofs.NumbersBack.{number-decimal}
use Rattle.halo_sampled.proofs.PlainRecords.{records-read}

-- the first of some tables has another name, if there is one
abbrev HasOtherName : List DecrementTable → List ℕ → Type 0
HasOtherName [] name = ⊤
HasOtherName (t ∷ tables) name = bytes_eq t.name name ≡ false

-- the row of a record is that which is drawn
row-written : (table : ℕ) (row : Row) → IsFineRow row → written_row (row_fields table row) ≡ drawn_row row
row-written table row fine =
    rw (
      number-decimal row.alive (omega (arith, fine.most)),
      number-decimal row.deaths (omega (arith, fine.fits, fine.most)),
      number-decimal row.lapses (omega (arith, fine.fits, fine.most)),
    ) refl

-- the table of some rows
abbrev table_of_rows : ℕ → Row → List Row → DecrementTable
table_of_rows table row rows = record {
  name = name_at table;
  first_age = row.age;
  rows = map drawn_row (row ∷ rows);
}

-- the last row of a table begins it
last-row : (table : ℕ) (row : Row) (tables : List DecrementTable) → IsFineRow row
    → HasOtherName tables (name_at table)
    → with_record (row_fields table row) tables ≡ table_of_rows table row [] ∷ tables
last-row table row [] fine other =
    rw (number-decimal row.age (omega (arith, fine.age)), row-written table row fine) refl
last-row table row (t ∷ tables) fine other =
    rw (other, number-decimal row.age (omega (arith, fine.age)), row-written table row fine) refl

-- and each row before goes to its front
row-before : (table : ℕ) (row next : Row) (rows : List Row) (tables : List DecrementTable) → IsFineRow row
    → with_record (row_fields table row) (table_of_rows table next rows ∷ tables)
    ≡ table_of_rows table row (next ∷ rows) ∷ tables
row-before table row next rows tables fine =
    rw (
      (bytes_eq-Decides (name_at table) (name_at table)).1 refl,
      number-decimal row.age (omega (arith, fine.age)),
      row-written table row fine,
    ) refl

-- the records of some rows before those of tables of other names
rows-grouped : (table : ℕ) (row : Row) (rows : List Row) (rest : List (List (List ℕ)))
    → All IsFineRow (row ∷ rows) → HasOtherName (grouped rest) (name_at table)
    → grouped (map (row_fields table) (row ∷ rows) ++ rest) ≡ table_of_rows table row rows ∷ grouped rest
rows-grouped table row [] rest fine other =
    last-row table row (grouped rest) (All-head IsFineRow row [] fine) other
rows-grouped table row (next ∷ rows) rest fine other =
    ap (with_record (row_fields table row))
    (rows-grouped table next rows rest (All-tail IsFineRow row (next ∷ rows) fine) other)
    ∙ row-before table row next rows (grouped rest) (All-head IsFineRow row (next ∷ rows) fine)

-- there is a row of the first age
first-row : (left x l s : ℕ) → x + left ≡ LAST_AGE
    → (row : Row) × (rows : List Row) × (rows_from left x l s ≡ row ∷ rows) × (row.age ≡ x)
unfolding rows_from
first-row zero x l s sum = (_, _, refl, omega (arith, sum))
first-row (suc left) x l s sum = (_, _, refl, refl)

-- the records of a table before those of tables of other names
table-grouped : (table s : ℕ) (rest : List (List (List ℕ))) → HasOtherName (grouped rest) (name_at table)
    → grouped (map (row_fields table) (table_rows s) ++ rest) ≡ drawn_table table s ∷ grouped rest
table-grouped table s rest other =
    let (row, rows, begun, age) = first-row LAST_AGE 0 RADIX s (omega arith) in
    let fine = All-same IsFineRow (row ∷ rows) (table_rows s) (sym begun) (rows-fine s) in
    let with_age : ℕ → List DecrementTable
    = λ first. record { name = name_at table; first_age = first; rows = map drawn_row (row ∷ rows) } ∷ grouped rest in
    rw begun (rows-grouped table row rows rest fine other ∙ ap with_age age)

-- the tables from the next number on have another name than a table
next-other : (left table s : ℕ) → left + suc table ≤ TABLES
    → HasOtherName (tables_from left (suc table) s) (name_at table)
unfolding tables_from
next-other zero table s within = tt
next-other (suc left) table s within =
    let next = name_at (suc table) in
    elim (cases_Bool (bytes_eq next (name_at table))) [
      | inl same ↦
          let one = (bytes_eq-Decides next (name_at table)).0 same in
          let differ : suc table ≢ table = λ e. absurd (omega (arith, e)) in
          absurd (names-differ (suc table) table (omega (arith, within)) (omega (arith, within)) differ one)
      | inr other ↦ other
    ]

-- the records of some tables
tables-grouped : (left table s : ℕ) → left + table ≤ TABLES
    → grouped (records_from left table s) ≡ tables_from left table s
unfolding records_from tables_from
tables-grouped zero table s within = refl
tables-grouped (suc left) table s within =
    let behind = state_behind_pairs LAST_AGE s in
    let rest = tables-grouped left (suc table) behind (omega (arith, within)) in
    let other = next-other left table behind (omega (arith, within)) in
    table-grouped table s (records_from left (suc table) behind) (rw rest other)
    ∙ ap (λ tables. drawn_table table s ∷ tables) rest

-- the tables file holds the tables that are drawn
pub tables-drawn : (number : ℕ) → tables_of (records_of (sample_tables number)) ≡ drawn_tables number
tables-drawn number =
    ap tables_of (records-read number)
    ∙ ap (λ tables. record { causes = codes "death" ∷ codes "lapse" ∷ []; tables = tables })
    (tables-grouped TABLES 0 number (omega arith))
