-- Multiple-decrement tables as plain data, and what is looked up in them.
use Rattle.std.specs.Prelude.{ℕ, ◌+◌, ◌-◌, ◌<◌, ◌≤◌, List, [], get_or, length, map}

-- a row of a table: the survivors at its age, and of these the leavers by each cause, in the order
-- of the causes
pub record DecrementRow : Type 0 where
  pub survivors : ℕ
  pub leavers : List ℕ

-- a table: its name as bytes, the age of its first row, and its rows, one for each age from there
-- on
pub record DecrementTable : Type 0 where
  pub name : List ℕ
  pub first_age : ℕ
  pub rows : List DecrementRow

-- what a tables file holds: the names of the causes, and the tables, in the order of the file
pub record TableFile : Type 0 where
  pub causes : List (List ℕ)
  pub tables : List DecrementTable

-- the names of some tables
abbrev pub names_of : List DecrementTable → List (List ℕ)
names_of tables = map (λ t. t.name) tables

-- a row with nobody in it, as it is past the last row of a table
abbrev pub empty_row : DecrementRow
empty_row = record { survivors = 0; leavers = [] }

-- a table without rows, as it is past the last table of a file
abbrev pub empty_table : DecrementTable
empty_table = record { name = []; first_age = 0; rows = [] }

-- the table at a place, counted from 0
abbrev pub table_of : TableFile → ℕ → DecrementTable
table_of file table = get_or file.tables table empty_table

-- the row of a table at an age from its first age on; past its last age it is empty
abbrev pub row_of : DecrementTable → ℕ → DecrementRow
row_of t age = get_or t.rows (age - t.first_age) empty_row

-- the name of a table
abbrev pub name_of : TableFile → ℕ → List ℕ
name_of file table = (table_of file table).name

-- the name of a cause
abbrev pub cause_of : TableFile → ℕ → List ℕ
cause_of file place = get_or file.causes place []

-- the age of a table's first row
abbrev pub first_age_of : TableFile → ℕ → ℕ
first_age_of file table = (table_of file table).first_age

-- the age of a table's last row
abbrev pub last_age_of : TableFile → ℕ → ℕ
last_age_of file table = first_age_of file table + length (table_of file table).rows - 1

-- the survivors of a table at an age from its first age on, 0 past its last age
abbrev pub survivors_at : TableFile → ℕ → ℕ → ℕ
survivors_at file table age = (row_of (table_of file table) age).survivors

-- those who leave at an age by the cause at a place, 0 past the table's last age
abbrev pub leavers_at : TableFile → ℕ → ℕ → ℕ → ℕ
leavers_at file table age cause = get_or (row_of (table_of file table) age).leavers cause 0

-- the table at a place, which is one of the file, has a row at an age
pub record HasRow (file : TableFile) (table age : ℕ) : Type 0 where
  pub table_in : table < length file.tables
  pub from_first : first_age_of file table ≤ age
  pub to_last : age ≤ last_age_of file table
