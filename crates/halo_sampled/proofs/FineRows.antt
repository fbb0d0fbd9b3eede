-- What holds of each row of a sample's tables.
use Rattle.std.proofs.Common.{ℕ, zero, suc, ◌≡◌, ◌+◌, ◌<◌, ◌≤◌, List, arith, inl, inr, map}
use Rattle.std.specs.Prelude.{All}
use Rattle.std.proofs.lemmas.List.Elements.{All-append, All-cons, All-from_get_or, All-map, All-nil, All-weaker}
use Rattle.std.proofs.lemmas.Bool.{cases_lt}
use Rattle.halo_sample.specs.declared.tables.Row.{Row}
use Rattle.halo_sample.specs.declared.tables.TheConstants.{LAST_AGE, RADIX, TABLES}
use Rattle.halo_sample.specs.Generator.{state_behind_pairs}
use Rattle.halo_sample.specs.Laws.{FEWEST, leavers, row_at}
use Rattle.halo_sample.specs.Records.{header_fields, records_from, row_fields, sample_records}
use Rattle.halo_sample.specs.Tables.{last_row, table_rows}
use Rattle.halo_sample.proofs.SampleTables.{tables-are-sound}

-- a row of an age up to the last one: some are alive, at most as many as at age 0, and no more leave
pub record IsFineRow (row : Row) : Type 0 where
  pub age : row.age ≤ LAST_AGE
  pub some : FEWEST < row.alive
  pub most : row.alive ≤ RADIX
  pub fits : leavers row ≤ row.alive

-- the row of each age is such
pub row-fine : (s x : ℕ) → x ≤ LAST_AGE → IsFineRow (row_at (table_rows s) x)
row-fine s x within =
    let sound = tables-are-sound s in
    let row = row_at (table_rows s) x in
    record {
      age = omega (arith, sound.age x within, within);
      some = sound.many x within;
      most = sound.most x within;
      fits = elim (cases_lt x LAST_AGE) [
        | inl before ↦ omega (arith, sound.few x before)
        | inr last ↦ let same : x ≡ LAST_AGE = omega (arith, within, last) in rw same (omega (arith, sound.last))
      ];
    }

-- so all rows of a table are
pub rows-fine : (s : ℕ) → All IsFineRow (table_rows s)
rows-fine s =
    All-from_get_or IsFineRow (table_rows s) (last_row 0)
    (λ x within. row-fine s x (omega (arith, within, (tables-are-sound s).count)))

-- what holds of the records of fine rows holds of the records of some tables
rows-all : (P : List (List ℕ) → Type 0)
    → ((table : ℕ) (row : Row) → table < TABLES → IsFineRow row → P (row_fields table row))
    → (left table s : ℕ) → left + table ≤ TABLES → All P (records_from left table s)
unfolding records_from
rows-all P each zero table s within = All-nil P
rows-all P each (suc left) table s within =
    let behind = state_behind_pairs LAST_AGE s in
    All-append P (map (row_fields table) (table_rows s)) (records_from left (suc table) behind)
    (All-map P (row_fields table) (table_rows s)
    (All-weaker IsFineRow (λ row. P (row_fields table row)) (λ row. each table row (omega (arith, within)))
    (table_rows s) (rows-fine s)))
    (rows-all P each left (suc table) behind (omega (arith, within)))

-- and, where it holds of record 1 too, of all records
pub records-all : (P : List (List ℕ) → Type 0) → P header_fields
    → ((table : ℕ) (row : Row) → table < TABLES → IsFineRow row → P (row_fields table row))
    → (number : ℕ) → All P (sample_records number)
records-all P header each number =
    All-cons P header_fields (records_from TABLES 0 number) header (rows-all P each TABLES 0 number (omega arith))
