-- The records of the tables file by their places.
use Rattle.std.proofs.Common.{◌≡◌, ℕ, zero, suc, ◌+◌, ◌-◌, ◌*◌, ◌<◌, ◌≤◌, [], arith, ap, get_or, length, length-append, map, ◌∙◌}
use Rattle.std.proofs.lemmas.List.{get_or-append_right, get_or-map, get_or_append_left, length-map}
use Rattle.halo_sample.specs.declared.tables.TheConstants.{LAST_AGE, RADIX, TABLES}
use Rattle.halo_sample.specs.Generator.{state_behind_pairs}
use Rattle.halo_sample.specs.Laws.{RecordsAreCounted, RecordsAreRows, row_at}
use Rattle.halo_sample.specs.Records.{records_from, row_fields, sample_records}
use Rattle.halo_sample.specs.Tables.{last_row, table_rows}
use Rattle.halo_sample.proofs.Draws.{behind-more, behind-none}
use Rattle.halo_sample.proofs.SampleTables.{row-count}

-- how many records a table has
table-count : (table s : ℕ) → length (map (row_fields table) (table_rows s)) ≡ LAST_AGE + 1
table-count table s = length-map (table_rows s) (row_fields table) ∙ row-count LAST_AGE 0 RADIX s

-- and some tables
tables-count : (left table s : ℕ) → length (records_from left table s) ≡ left * (LAST_AGE + 1)
unfolding records_from
tables-count zero table s = omega arith
tables-count (suc left) table s =
    let behind = state_behind_pairs LAST_AGE s in
    let here = map (row_fields table) (table_rows s) in
    omega (
      arith,
      length-append here (records_from left (suc table) behind),
      table-count table s,
      tables-count left (suc table) behind,
    )

pub records-are-counted : RecordsAreCounted
records-are-counted number = omega (arith, tables-count TABLES 0 number)

-- the record of a row in the first of some tables
first-table : (table s x : ℕ) → x ≤ LAST_AGE
    → get_or (map (row_fields table) (table_rows s)) x [] ≡ row_fields table (row_at (table_rows s) x)
first-table table s x within =
    get_or-map (row_fields table) (table_rows s) x (last_row 0) [] (omega (arith, within, row-count LAST_AGE 0 RADIX s))

-- and in any of them
by-place : (left table s j x : ℕ) → j < left → x ≤ LAST_AGE
    → get_or (records_from left table s) (j * (LAST_AGE + 1) + x) []
    ≡ row_fields (table + j) (row_at (table_rows (state_behind_pairs (j * LAST_AGE) s)) x)
unfolding records_from
by-place zero table s j x more within = absurd (omega (arith, more))
by-place (suc left) table s zero x more within =
    let here = map (row_fields table) (table_rows s) in
    let rest = records_from left (suc table) (state_behind_pairs LAST_AGE s) in
    let inside : x < length here = omega (arith, within, table-count table s) in
    let place : 0 * (LAST_AGE + 1) + x ≡ x = omega arith in
    let name : table + 0 ≡ table = omega arith in
    rw (place, name, behind-none s) (get_or_append_left here rest [] x inside ∙ first-table table s x within)
by-place (suc left) table s (suc j) x more within =
    let behind = state_behind_pairs LAST_AGE s in
    let here = map (row_fields table) (table_rows s) in
    let rest = records_from left (suc table) behind in
    let place : suc j * (LAST_AGE + 1) + x - (LAST_AGE + 1) ≡ j * (LAST_AGE + 1) + x = omega arith in
    let name : suc table + j ≡ table + suc j = omega arith in
    let draws : LAST_AGE + j * LAST_AGE ≡ suc j * LAST_AGE = omega arith in
    let state : state_behind_pairs (j * LAST_AGE) behind ≡ state_behind_pairs (suc j * LAST_AGE) s
    = behind-more LAST_AGE (j * LAST_AGE) s ∙ ap (λ n. state_behind_pairs n s) draws in
    get_or-append_right here rest (LAST_AGE + 1) (suc j * (LAST_AGE + 1) + x) [] (table-count table s) (omega arith)
    ∙ ap (λ i. get_or rest i []) place
    ∙ by-place left (suc table) behind j x (omega (arith, more)) within
    ∙ ap (λ n. row_fields n (row_at (table_rows (state_behind_pairs (j * LAST_AGE) behind)) x)) name
    ∙ ap (λ n. row_fields (table + suc j) (row_at (table_rows n) x)) state

pub records-are-rows : RecordsAreRows
records-are-rows number table x known within =
    let next : table * (LAST_AGE + 1) + x + 1 ≡ suc (table * (LAST_AGE + 1) + x) = omega arith in
    let name : 0 + table ≡ table = omega arith in
    ap (λ i. get_or (sample_records number) i []) next ∙ by-place TABLES 0 number table x known within
    ∙ ap (λ n. row_fields n (row_at (table_rows (state_behind_pairs (table * LAST_AGE) number)) x)) name
