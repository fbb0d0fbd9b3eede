-- The columns of a table, and what they enclose.
use Rattle.std.specs.Prelude.{◌≡◌, ℕ, ◌-◌, ◌<◌, ◌≤◌, List, [], get_or, length}
use Rattle.halo_num.specs.Ends.{Ends}
use Rattle.halo_table.specs.DecrementTable.{first_age_of, last_age_of}
use Rattle.halo_model.specs.Columns.{ColumnBasis, column_c, column_c_by, column_d, column_m, column_m_by, column_n, column_r, column_s, width_c, width_c_by, width_d, width_m, width_m_by, width_n, width_r, width_s}
use Rattle.halo_columns.specs.declared.set.TheConstants.{GREATEST_ENTRY}
use Rattle.halo_columns.specs.Entries.{IsEntry, zero_entry}

-- a column of discounted counts, its sums, and the sums of these: D, N and S, or C, M and R
pub record SummedTwice : Type 0 where
  pub discounted : List Ends
  pub sums : List Ends
  pub sums_of_sums : List Ends

-- a column of discounted counts and its sums: C and M of a cause
pub record SummedOnce : Type 0 where
  pub discounted : List Ends
  pub sums : List Ends

-- no columns, as they are past the last cause
abbrev pub no_columns : SummedOnce
no_columns = record { discounted = []; sums = [] }

-- all columns of a table, each from the last age down to the first
pub record ColumnLists : Type 0 where
  pub last_age : ℕ
  pub survivors : SummedTwice
  pub leavers : SummedTwice
  pub by_cause : List SummedOnce

-- the entry of a column at an age
abbrev pub entry_at : ColumnLists → List Ends → ℕ → Ends
entry_at set column age = get_or column (set.last_age - age) zero_entry

-- the columns of a cause
abbrev pub of_cause : ColumnLists → ℕ → SummedOnce
of_cause set cause = get_or set.by_cause cause no_columns

-- a list encloses a column at each age of the table, within its width, from 0 to 10^17 ones
abbrev pub EnclosesColumn : ColumnBasis → ColumnLists → (ℕ → ℕ) → (ℕ → ℕ) → List Ends → Type 0
EnclosesColumn c set column width list =
    (x : ℕ) → first_age_of c.file c.table ≤ x → x ≤ last_age_of c.file c.table
    → IsEntry c (column x) (width x) GREATEST_ENTRY (entry_at set list x)

-- the lists enclose all columns
pub record EnclosesColumns (c : ColumnBasis) (set : ColumnLists) : Type 0 where
  pub ages : set.last_age ≡ last_age_of c.file c.table
  pub causes : length set.by_cause ≡ length c.file.causes
  pub d : EnclosesColumn c set (column_d c) (width_d c) set.survivors.discounted
  pub n : EnclosesColumn c set (column_n c) (width_n c) set.survivors.sums
  pub s : EnclosesColumn c set (column_s c) (width_s c) set.survivors.sums_of_sums
  pub c_all : EnclosesColumn c set (column_c c) (width_c c) set.leavers.discounted
  pub m : EnclosesColumn c set (column_m c) (width_m c) set.leavers.sums
  pub r : EnclosesColumn c set (column_r c) (width_r c) set.leavers.sums_of_sums
  pub c_by : (j : ℕ) → j < length c.file.causes
      → EnclosesColumn c set (column_c_by c j) (width_c_by c j) (of_cause set j).discounted
  pub m_by : (j : ℕ) → j < length c.file.causes
      → EnclosesColumn c set (column_m_by c j) (width_m_by c j) (of_cause set j).sums
