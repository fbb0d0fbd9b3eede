-- The records of a sample's tables file, by table and age.
use Rattle.std.proofs.Common.{◌≡◌, ◌≢◌, ℕ, suc, ◌+◌, ◌-◌, ◌*◌, ◌/◌, ◌%◌, ◌<◌, ◌≤◌, List, ap, arith, length, refl, sym, ◌∙◌}
use Rattle.halo_table.specs.Record.{field, record_at}
use Rattle.halo_sample.specs.declared.tables.Row.{Row}
use Rattle.halo_sample.specs.declared.tables.TheConstants.{LAST_AGE, TABLES}
use Rattle.halo_sample.specs.Generator.{state_behind_pairs}
use Rattle.halo_sample.specs.Laws.{leavers, row_at}
use Rattle.halo_sample.specs.Records.{header_fields, row_fields, sample_records}
use Rattle.halo_sample.specs.Tables.{staying, table_rows}
use Rattle.halo_sample.proofs.RecordsByPlace.{records-are-counted, records-are-rows}
use Rattle.halo_sample.proofs.SampleTables.{tables-are-sound}
use Rattle.halo_sampled.proofs.FineRows.{IsFineRow, row-fine}
use Rattle.halo_sampled.proofs.NamesOfTables.{name_at, names-differ}

-- the place of the record of a table and an age
abbrev pub place : ℕ → ℕ → ℕ
place table x = table * (LAST_AGE + 1) + x + 1

-- these records are record 1 and those of the rows of the tables, one for each age up to the last
pub record AreRowsOf (all : List (List (List ℕ))) (row : ℕ → ℕ → Row) : Type 0 where
  pub first : record_at all 0 ≡ header_fields
  pub count : length all ≡ TABLES * (LAST_AGE + 1) + 1
  pub at : (table x : ℕ) → table < TABLES → x ≤ LAST_AGE
      → record_at all (place table x) ≡ row_fields table (row table x)
  pub fine : (table x : ℕ) → x ≤ LAST_AGE → IsFineRow (row table x)
  pub age : (table x : ℕ) → x ≤ LAST_AGE → (row table x).age ≡ x
  pub next : (table x : ℕ) → x < LAST_AGE → (row table (suc x)).alive ≡ staying (row table x)
  pub last : (table : ℕ) → leavers (row table LAST_AGE) ≡ (row table LAST_AGE).alive

-- the row of a table and an age in the sample of a number
abbrev pub sample_row : ℕ → ℕ → ℕ → Row
sample_row number table x = row_at (table_rows (state_behind_pairs (table * LAST_AGE) number)) x

-- the records of a sample are such
pub sample-placed : (number : ℕ) → AreRowsOf (sample_records number) (sample_row number)
sample-placed number = record {
  first = refl;
  count = records-are-counted number;
  at = records-are-rows number;
  fine = λ table x within. row-fine (state_behind_pairs (table * LAST_AGE) number) x within;
  age = λ table x within. (tables-are-sound (state_behind_pairs (table * LAST_AGE) number)).age x within;
  next = λ table x before.
      let one : suc x ≡ x + 1 = omega arith in
      rw one ((tables-are-sound (state_behind_pairs (table * LAST_AGE) number)).next x before);
  last = λ table. (tables-are-sound (state_behind_pairs (table * LAST_AGE) number)).last;
}

-- each place behind record 1 is that of a table and an age
pub place-of : (i : ℕ) → 0 < i → i < TABLES * (LAST_AGE + 1) + 1
    → (table : ℕ) × (x : ℕ) × (table < TABLES) × (x ≤ LAST_AGE) × (i ≡ place table x)
place-of i some within =
    ((i - 1) / (LAST_AGE + 1), (i - 1) % (LAST_AGE + 1), omega arith, omega arith, omega arith)

-- the place of the next age
pub next-place : (table x : ℕ) → place table (suc x) ≡ place table x + 1
next-place table x = omega arith

-- the place of the first age of the next table
pub next-first_place : (table : ℕ) → place (suc table) 0 ≡ place table LAST_AGE + 1
next-first_place table = omega arith

module _ (all : List (List (List ℕ))) (row : ℕ → ℕ → Row) (rows : AreRowsOf all row) (table : ℕ) where
  -- the first field of a record is the name of its table
  pub name-placed : (x : ℕ) → table < TABLES → x ≤ LAST_AGE → field (record_at all (place table x)) 0 ≡ name_at table
  name-placed x known within = ap (λ fields. field fields 0) (rows.at table x known within)

  -- the records of two ages of a table have one name
  pub name-stays : (x : ℕ) → table < TABLES → suc x ≤ LAST_AGE
      → field (record_at all (place table x)) 0 ≡ field (record_at all (place table x + 1)) 0
  name-stays x known within =
      name-placed x known (omega (arith, within)) ∙ sym (name-placed (suc x) known within)
      ∙ ap (λ i. field (record_at all i) 0) (next-place table x)

-- those of the last age of a table and of the first age of the next have two
pub name-changes : (all : List (List (List ℕ))) (row : ℕ → ℕ → Row) → AreRowsOf all row
    → (table : ℕ) → suc table < TABLES
    → field (record_at all (place table LAST_AGE)) 0 ≢ field (record_at all (place table LAST_AGE + 1)) 0
name-changes all row rows table known same =
    names-differ table (suc table) (omega (arith, known)) (omega (arith, known)) (λ e. absurd (omega (arith, e)))
    (sym (name-placed all row rows table LAST_AGE (omega (arith, known)) (omega arith)) ∙ same
    ∙ ap (λ i. field (record_at all i) 0) (sym (next-first_place table))
    ∙ name-placed all row rows (suc table) 0 known (omega arith))
