-- What holds of the files of every sample.
use Rattle.std.specs.Prelude.{ℕ, ◌≡◌, ◌+◌, ◌*◌, ◌<◌, ◌≤◌, List, [], flat_map, get_or, length}
use Rattle.halo_sample.specs.declared.tables.Row.{Row}
use Rattle.halo_sample.specs.declared.tables.TheConstants.{LAST_AGE, RADIX, TABLES}
use Rattle.halo_sample.specs.Records.{record_line, row_fields, sample_records}
use Rattle.halo_sample.specs.Sample.{sample_contract, sample_tables}
use Rattle.halo_sample.specs.Tables.{last_row, staying, table_rows}
use Rattle.halo_sample.specs.Generator.{drawn, state_behind_pairs}
use Rattle.halo_sample.specs.Words.{sample_words, word_line}

-- the row of an age
abbrev pub row_at : List Row → ℕ → Row
row_at rows x = get_or rows x (last_row 0)

-- all who leave in the year of a row
abbrev pub leavers : Row → ℕ
leavers row = row.deaths + row.lapses

-- more than so many are alive at each age
abbrev pub FEWEST : ℕ
FEWEST = 1_000_000

-- rows with one for each age, from all at age 0 on; who does not leave is alive at the next age.
-- Before the last age fewer than one twentieth leave, and at the last age all do
pub record IsSampleTable (rows : List Row) : Type 0 where
  pub count : length rows ≡ LAST_AGE + 1
  pub age : (x : ℕ) → x ≤ LAST_AGE → (row_at rows x).age ≡ x
  pub first : (row_at rows 0).alive ≡ RADIX
  pub next : (x : ℕ) → x < LAST_AGE → (row_at rows (x + 1)).alive ≡ staying (row_at rows x)
  pub falls : (x : ℕ) → x < LAST_AGE → (row_at rows (x + 1)).alive ≤ (row_at rows x).alive
  pub few : (x : ℕ) → x < LAST_AGE → leavers (row_at rows x) * 20 < (row_at rows x).alive
  pub many : (x : ℕ) → x ≤ LAST_AGE → FEWEST < (row_at rows x).alive
  pub most : (x : ℕ) → x ≤ LAST_AGE → (row_at rows x).alive ≤ RADIX
  pub last : leavers (row_at rows LAST_AGE) ≡ (row_at rows LAST_AGE).alive

-- the rows of a table are such, whatever the state from which they are drawn
abbrev pub TablesAreSound : Type 0
TablesAreSound = (s : ℕ) → IsSampleTable (table_rows s)

-- the tables file is the lines of its records
abbrev pub TablesAreRecords : Type 0
TablesAreRecords = (number : ℕ)
    → sample_tables number ≡ flat_map record_line (sample_records number)

-- it has so many records
abbrev pub RecordsAreCounted : Type 0
RecordsAreCounted = (number : ℕ)
    → length (sample_records number) ≡ TABLES * (LAST_AGE + 1) + 1

-- and behind record 1 stand those of the rows, table by table and age by age
abbrev pub RecordsAreRows : Type 0
RecordsAreRows = (number table x : ℕ) → table < TABLES → x ≤ LAST_AGE
    → get_or (sample_records number) (table * (LAST_AGE + 1) + x + 1) []
    ≡ row_fields table (row_at (table_rows (state_behind_pairs (table * LAST_AGE) number)) x)

-- the contract file is the lines of its words
abbrev pub ContractIsWords : Type 0
ContractIsWords = (number : ℕ) → sample_contract number ≡ flat_map word_line (sample_words number)

-- a number that is drawn below n is below n
abbrev pub DrawsAreBelow : Type 0
DrawsAreBelow = (n s : ℕ) → 0 < n → drawn n s < n
