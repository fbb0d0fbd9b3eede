-- What the functions that read a tables file answer.
use Rattle.std.specs.Prelude.{◌≡◌, ◌≢◌, ℕ, ◌<◌, ◌≤◌, List, [], ◌∷◌, ◌++◌, get_or, length, Bool, true, Result, Ok, Err, ⊤}
use Rattle.halo_text.specs.Name.{IsName}
use Rattle.halo_text.specs.Number.{IsNumber, number}
use Rattle.halo_table.specs.Record.{all_leavers, field, greatest_at}
use Rattle.halo_table.specs.DecrementTable.{DecrementRow, DecrementTable, TableFile}
use Rattle.halo_table.specs.Faults.{HasLarge, HasOther, IsFirst, IsFirstFault, NoFault, RowHolds, StepHolds}
use Rattle.halo_table.specs.Grouping.{tables_of}
use Rattle.halo_table.specs.declared.fault.TableKind.{TableKind}
use Rattle.halo_table.specs.declared.fault.TableKind.TheVariants as kind
use Rattle.halo_table.specs.declared.fault.TablesError.{TablesError}
use Rattle.halo_table.specs.declared.fault.TablesError.TheVariants as error
use Rattle.halo_table.specs.declared.row.RowNumbers.{RowNumbers}

-- each of a row's first fields, behind its name, is a number that is small enough, and stands at
-- its place
abbrev pub AreNumbers : ℕ → List (List ℕ) → List ℕ → Type 0
AreNumbers width row numbers =
    (j : ℕ) → 1 ≤ j → j < width
    → IsNumber (field row j) × (get_or numbers j 0 ≡ number (field row j))
    × (number (field row j) ≤ greatest_at j)

-- the numbers of a row, or why it has none: a field that is no number comes before one that is too
-- large
abbrev pub ReadsNumbers : ℕ → List (List ℕ) → Result (List ℕ) TableKind → Type 0
ReadsNumbers width row (Ok numbers) = AreNumbers width row numbers
ReadsNumbers width row (Err kind.Number) = HasOther width row
ReadsNumbers width row (Err kind.Large) = HasLarge width row × (HasOther width row → ⊥)
ReadsNumbers width row (Err _) = ⊥

-- these are the numbers of a row of so many fields, and its leavers over all causes
pub record AreRowNumbers (width : ℕ) (row : List (List ℕ)) (r : RowNumbers) : Type 0 where
  pub fields : length row ≡ width
  pub named : IsName (field row 0)
  pub numbers : AreNumbers width row r.numbers
  pub leaving : r.leaving ≡ all_leavers row

-- the numbers of a row, or the first kind that holds of it by itself
abbrev pub ReadsRow : ℕ → List (List ℕ) → Result RowNumbers TableKind → Type 0
ReadsRow width row (Ok r) = ((k : TableKind) → RowHolds width row k → ⊥) × AreRowNumbers width row r
ReadsRow width row (Err k) = IsFirst (RowHolds width row) k

-- the numbers of a row, or the first kind that holds of it beside the record before it
abbrev pub ReadsStep : ℕ → List (List ℕ) → Bool → List (List ℕ) → List (List ℕ)
    → Result RowNumbers TableKind → Type 0
ReadsStep width names is_first_row last row (Ok r) =
    ((k : TableKind) → StepHolds width names is_first_row last row k → ⊥)
    × AreRowNumbers width row r
ReadsStep width names is_first_row last row (Err k) =
    IsFirst (StepHolds width names is_first_row last row) k

-- the record before is behind record 1, ends its table, and has survivors left over
abbrev pub IsLeftOpen : ℕ → RowNumbers → List (List ℕ) → Bool → List (List ℕ) → Type 0
IsLeftOpen count before last found row =
    (1 < count) × (before.leaving ≢ get_or before.numbers 2 0)
    × (found ≡ true → field last 0 ≢ field row 0)

-- an error tells the first fault of a file; want of memory tells nothing
abbrev pub IsTold : List (List (List ℕ)) → TablesError → Type 0
IsTold records error.Memory = ⊤
IsTold records (error.Fault f) = IsFirstFault records f.row f.kind

-- the tables of a file without fault, or its first fault
abbrev pub ReadsTables : List (List (List ℕ)) → Result TableFile TablesError → Type 0
ReadsTables records (Ok file) = NoFault records × (file ≡ tables_of records)
ReadsTables records (Err e) = IsTold records e

-- the last of some tables has this name
abbrev pub IsLastName : List DecrementTable → List ℕ → Type 0
IsLastName [] name = ⊥
IsLastName (t ∷ []) name = t.name ≡ name
IsLastName (t ∷ next ∷ rest) name = IsLastName (next ∷ rest) name

-- some tables with a row more behind those of the last
abbrev pub with_last_row : List DecrementTable → DecrementRow → List DecrementTable
with_last_row [] row = []
with_last_row (t ∷ []) row =
    record { name = t.name; first_age = t.first_age; rows = t.rows ++ row ∷ [] } ∷ []
with_last_row (t ∷ next ∷ rest) row = t ∷ with_last_row (next ∷ rest) row
