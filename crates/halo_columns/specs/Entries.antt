-- Columns as lists of intervals, from the last age of a table down to its first.
use Rattle.std.specs.Prelude.{◌≡◌, ⊤, ℕ, zero, suc, ◌+◌, ◌-◌, ◌<◌, List, get_or, length, pos, ◌+ℤ◌}
use Rattle.halo_num.specs.Ends.{Ends, HasWidth, IsWithin}
use Rattle.halo_num.specs.Enclosure.{Encloses}
use Rattle.halo_table.specs.DecrementTable.{TableFile, first_age_of, last_age_of}
use Rattle.halo_model.specs.Columns.{ColumnBasis, column_c, column_c_by, column_d, column_denominator, end_age, width_c, width_c_by, width_d}
use Rattle.halo_columns.specs.declared.entry.Counted.{Counted}
use Rattle.halo_columns.specs.declared.entry.Counted.TheVariants.{Survivors, Leavers, LeaversBy}

-- the basis of the columns of a table
abbrev pub columns_of : (ℕ → ℕ) → (ℕ → ℕ) → TableFile → ℕ → ColumnBasis
columns_of p q file table = record { p = p; q = q; file = file; table = table }

-- the cause that is counted is one of the file
abbrev pub IsKnown : TableFile → Counted → Type 0
IsKnown file (LeaversBy cause) = cause < length file.causes
IsKnown file _ = ⊤

-- the column that counts some lives, and how wide it may be
abbrev pub counted : ColumnBasis → Counted → ℕ → ℕ
counted c Survivors = column_d c
counted c Leavers = column_c c
counted c (LeaversBy cause) = column_c_by c cause

abbrev pub counted_width : ColumnBasis → Counted → ℕ → ℕ
counted_width c Survivors = width_d c
counted_width c Leavers = width_c c
counted_width c (LeaversBy cause) = width_c_by c cause

-- i encloses an entry of a column, is at most w fine units wide, and lies from 0 to most
pub record IsEntry (c : ColumnBasis) (entry w most : ℕ) (i : Ends) : Type 0 where
  pub encloses : Encloses i (pos entry) (column_denominator c)
  pub narrow : HasWidth i w
  pub within : IsWithin i (pos 0) (pos most)

-- nothing, as it is past the last age
abbrev pub zero_entry : Ends
zero_entry = record { lo = pos 0; hi = pos 0 }

-- a list has a column's entries, that of the last age first
pub record AreEntries (c : ColumnBasis) (entry width : ℕ → ℕ) (most : ℕ)
    (column : List Ends) : Type 0 where
  pub full : length column + first_age_of c.file c.table ≡ end_age c
  pub each : (k : ℕ) → k < length column
      → IsEntry c (entry (last_age_of c.file c.table - k)) (width (last_age_of c.file c.table - k))
      most (get_or column k zero_entry)

-- each entry lies from 0 to most
pub record AreSized (most : ℕ) (column : List Ends) : Type 0 where
  pub each : (k : ℕ) → k < length column → IsWithin (get_or column k zero_entry) (pos 0) (pos most)

-- the sum of two intervals
abbrev pub sum_of_ends : Ends → Ends → Ends
sum_of_ends a b = record { lo = a.lo +ℤ b.lo; hi = a.hi +ℤ b.hi }

-- the sum before a place of a list of sums: nothing before the first one
abbrev pub sum_before : List Ends → ℕ → Ends
sum_before sums zero = zero_entry
sum_before sums (suc k) = get_or sums k zero_entry

-- each sum is the one before it and the entry in its place
pub record AreSums (column sums : List Ends) : Type 0 where
  pub full : length sums ≡ length column
  pub each : (k : ℕ) → k < length column
      → get_or sums k zero_entry ≡ sum_of_ends (sum_before sums k) (get_or column k zero_entry)
