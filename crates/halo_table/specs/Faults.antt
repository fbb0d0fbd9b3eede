-- The faults of a tables file, each stated of a record and of the records before and behind it.
use Rattle.std.specs.Prelude.{◌≡◌, ◌≢◌, ℕ, ◌<◌, ◌≤◌, ◌+◌, ◌-◌, ◌⊎◌, ◌==◌, Bool, false, List, length, take, drop, Contains}
use Rattle.halo_text.specs.Name.{IsName}
use Rattle.halo_text.specs.Number.{IsNumber, number}
use Rattle.halo_table.specs.Record.{IsHeader, all_leavers, field, greatest_at, record_at}
use Rattle.halo_table.specs.DecrementTable.{names_of}
use Rattle.halo_table.specs.Grouping.{grouped}
use Rattle.halo_table.specs.declared.fault.TableKind.{TableKind}
use Rattle.halo_table.specs.declared.row.TheConstants.{MOST_FIELDS}
use Rattle.halo_table.specs.declared.step.TheConstants.{MOST_TABLES}
use Rattle.halo_table.specs.declared.fault.TableKind.TheVariants as kind

-- the place of a kind in the order in which kinds are told
abbrev pub rank : TableKind → ℕ
rank kind.Header = 1
rank kind.Fields = 2
rank kind.Name = 3
rank kind.Number = 4
rank kind.Large = 5
rank kind.Again = 6
rank kind.TooMany = 7
rank kind.Age = 8
rank kind.Decrements = 9
rank kind.Closed = 10

-- of the kinds that may hold, this one does and none before it in the order
pub record IsFirst (holds : TableKind → Type 0) (k : TableKind) : Type 0 where
  pub here : holds k
  pub none_before : (j : TableKind) → rank j < rank k → holds j → ⊥

-- one of a row's first fields, behind its name, is no number
abbrev pub HasOther : ℕ → List (List ℕ) → Type 0
HasOther width row = (j : ℕ) × (1 ≤ j) × (j < width) × (IsNumber (field row j) → ⊥)

-- one of a row's first fields, behind its name, is a number that is too large
abbrev pub HasLarge : ℕ → List (List ℕ) → Type 0
HasLarge width row = (j : ℕ) × (1 ≤ j) × (j < width) × (greatest_at j < number (field row j))

-- what can be wrong with a row by itself, where record 1 has so many fields
abbrev pub RowHolds : ℕ → List (List ℕ) → TableKind → Type 0
RowHolds width row kind.Fields = length row ≢ width
RowHolds width row kind.Name = IsName (field row 0) → ⊥
RowHolds width row kind.Number = HasOther (length row) row
RowHolds width row kind.Large = HasLarge (length row) row
RowHolds width row kind.Header = ⊥
RowHolds width row kind.Again = ⊥
RowHolds width row kind.TooMany = ⊥
RowHolds width row kind.Age = ⊥
RowHolds width row kind.Decrements = ⊥
RowHolds width row kind.Closed = ⊥

-- the row does not start a table: it is not the first row, and the record before it has the same
-- first field
abbrev pub Continues : Bool → List (List ℕ) → List (List ℕ) → Type 0
Continues is_first_row last row = (is_first_row ≡ false) × (field last 0 ≡ field row 0)

-- the row does not start a table, and its age is not the age before plus one
abbrev pub OffAge : Bool → List (List ℕ) → List (List ℕ) → Type 0
OffAge is_first_row last row =
    Continues is_first_row last row × (number (field row 1) ≢ number (field last 1) + 1)

-- there are no survivors, or more leavers than survivors, or the row does not start a table and its
-- survivors are not those before less their leavers
abbrev pub OffSurvivors : Bool → List (List ℕ) → List (List ℕ) → Type 0
OffSurvivors is_first_row last row =
    (number (field row 2) ≡ 0) ⊎ (number (field row 2) < all_leavers row)
    ⊎ (Continues is_first_row last row
    × (number (field row 2) ≢ number (field last 2) - all_leavers last))

-- what can be wrong with a row beside the record before it, where the tables so far have these
-- names
abbrev pub StepHolds : ℕ → List (List ℕ) → Bool → List (List ℕ) → List (List ℕ) → TableKind → Type 0
StepHolds width names is_first_row last row kind.Again =
    (Continues is_first_row last row → ⊥) × Contains names (field row 0)
StepHolds width names is_first_row last row kind.TooMany =
    (Continues is_first_row last row → ⊥) × (MOST_TABLES ≤ length names)
StepHolds width names is_first_row last row kind.Age = OffAge is_first_row last row
StepHolds width names is_first_row last row kind.Decrements = OffSurvivors is_first_row last row
StepHolds width names is_first_row last row k = RowHolds width row k

-- the names of the tables of the records before a place
abbrev pub names_before : List (List (List ℕ)) → ℕ → List (List ℕ)
names_before records i = names_of (grouped (drop 1 (take i records)))

-- the row is the last of its table
abbrev pub Ends : List (List (List ℕ)) → ℕ → Type 0
Ends records i =
    i + 1 < length records → field (record_at records (i + 1)) 0 ≢ field (record_at records i) 0

-- what can be wrong with the record at a place, counted from 0; place 0 is looked at also where
-- there is no record
abbrev pub Holds : List (List (List ℕ)) → ℕ → TableKind → Type 0
Holds records i kind.Header = (i ≡ 0) × (IsHeader (record_at records 0) → ⊥)
Holds records i kind.TooMany = ((i ≡ 0) × (MOST_FIELDS < length (record_at records 0)))
    ⊎ ((0 < i) × (Continues (i == 1) (record_at records (i - 1)) (record_at records i) → ⊥)
    × (MOST_TABLES ≤ length (names_before records i)))
Holds records i kind.Closed =
    (0 < i) × Ends records i × (number (field (record_at records i) 2) ≢ all_leavers
    (record_at records i))
Holds records i k =
    (0 < i) × StepHolds (length (record_at records 0)) (names_before records i) (i == 1)
    (record_at records (i - 1)) (record_at records i) k

-- none of the first n records has a fault
abbrev pub Clean : List (List (List ℕ)) → ℕ → Type 0
Clean records n = (i : ℕ) → i < n → (k : TableKind) → Holds records i k → ⊥

-- a file with these records has no fault
abbrev pub NoFault : List (List (List ℕ)) → Type 0
NoFault records = (0 < length records) × Clean records (length records)

-- record `row`, counted from 1, is the first faulty one, and this is the first kind that holds
-- there; without any record it is record 1
pub record IsFirstFault (records : List (List (List ℕ))) (row : ℕ) (k : TableKind) : Type 0 where
  pub counted : 1 ≤ row
  pub within : (row ≡ 1) ⊎ (row ≤ length records)
  pub kind_first : IsFirst (Holds records (row - 1)) k
  pub clean : Clean records (row - 1)
