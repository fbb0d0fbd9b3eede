-- The text of commutation columns.
use Rattle.std.specs.Prelude.{◌≡◌, ℕ, zero, suc, ◌+◌, ◌-◌, ◌<◌, ◌≤◌, List, [], ◌++◌, codes, length, pos}
use Rattle.std.specs.Fmt.{decimal}
use Rattle.halo_num.specs.Ends.{Ends, IsWithin}
use Rattle.halo_table.specs.DecrementTable.{TableFile, cause_of, first_age_of, last_age_of}
use Rattle.halo_columns.specs.declared.set.TheConstants.{GREATEST_ENTRY}
use Rattle.halo_columns.specs.Set.{ColumnLists, entry_at, of_cause}
use Rattle.halo_report.specs.Lines.{ends_text}
use Rattle.halo_report.specs.Printed.{printed_of}

-- so many lines, one for each number from a first one on
abbrev pub lines_from : (ℕ → List ℕ) → ℕ → ℕ → List ℕ
lines_from line first zero = []
lines_from line first (suc count) = line first ++ lines_from line (suc first) count

-- a column's name and its entry
unfoldable pub entry_text : List ℕ → Ends → List ℕ
entry_text name entry = name ++ ends_text (printed_of entry)

-- D, N and S at an age, and C, M and R
unfoldable pub survivors_text : ColumnLists → ℕ → List ℕ
survivors_text set x =
    entry_text (codes " D") (entry_at set set.survivors.discounted x)
    ++ entry_text (codes " N") (entry_at set set.survivors.sums x)
    ++ entry_text (codes " S") (entry_at set set.survivors.sums_of_sums x)

unfoldable pub leavers_text : ColumnLists → ℕ → List ℕ
leavers_text set x =
    entry_text (codes " C") (entry_at set set.leavers.discounted x)
    ++ entry_text (codes " M") (entry_at set set.leavers.sums x)
    ++ entry_text (codes " R") (entry_at set set.leavers.sums_of_sums x)

-- the line of an age
abbrev pub age_line : ColumnLists → ℕ → List ℕ
age_line set x =
    codes "age " ++ decimal x ++ survivors_text set x ++ leavers_text set x ++ codes "\n"

-- the line of a cause at an age
abbrev pub cause_line : TableFile → ColumnLists → ℕ → ℕ → List ℕ
cause_line file set x cause =
    codes "age " ++ decimal x ++ codes " cause " ++ cause_of file cause
    ++ entry_text (codes " C") (entry_at set (of_cause set cause).discounted x)
    ++ entry_text (codes " M") (entry_at set (of_cause set cause).sums x)
    ++ codes "\n"

-- the lines of an age: its own, and one for each cause
abbrev pub age_lines : TableFile → ColumnLists → ℕ → List ℕ
age_lines file set x =
    age_line set x ++ lines_from (cause_line file set x) 0 (length file.causes)

-- the lines of all ages of a table
abbrev pub columns_text : TableFile → ℕ → ColumnLists → List ℕ
columns_text file table set =
    lines_from (age_lines file set) (first_age_of file table)
    (last_age_of file table + 1 - first_age_of file table)

-- an entry that can be printed
abbrev pub IsPrintableEntry : Ends → Type 0
IsPrintableEntry entry = IsWithin entry (pos 0) (pos GREATEST_ENTRY)

-- the entries at an age can be printed
pub record IsPrintableAge (set : ColumnLists) (x : ℕ) : Type 0 where
  pub age : x ≤ set.last_age
  pub d : IsPrintableEntry (entry_at set set.survivors.discounted x)
  pub n : IsPrintableEntry (entry_at set set.survivors.sums x)
  pub s : IsPrintableEntry (entry_at set set.survivors.sums_of_sums x)
  pub c : IsPrintableEntry (entry_at set set.leavers.discounted x)
  pub m : IsPrintableEntry (entry_at set set.leavers.sums x)
  pub r : IsPrintableEntry (entry_at set set.leavers.sums_of_sums x)

-- and those by each cause of a file
pub record ArePrintableCauses (file : TableFile) (set : ColumnLists) (x : ℕ) : Type 0 where
  pub age : x ≤ set.last_age
  pub causes : length set.by_cause ≡ length file.causes
  pub c : (j : ℕ) → j < length file.causes
      → IsPrintableEntry (entry_at set (of_cause set j).discounted x)
  pub m : (j : ℕ) → j < length file.causes
      → IsPrintableEntry (entry_at set (of_cause set j).sums x)

-- at each age of a table, as in the columns of that table
pub record ArePrintable (file : TableFile) (table : ℕ) (set : ColumnLists) : Type 0 where
  pub ages : (x : ℕ) → first_age_of file table ≤ x → x ≤ last_age_of file table
      → IsPrintableAge set x
  pub causes : (x : ℕ) → first_age_of file table ≤ x → x ≤ last_age_of file table
      → ArePrintableCauses file set x
