-- What holds of the tables of every file without fault.
use Rattle.std.specs.Prelude.{◌≡◌, ◌≢◌, ℕ, ◌+◌, ◌<◌, ◌≤◌, List, [], ◌∷◌, All, get_or, length, sum}
use Rattle.halo_text.specs.Name.{IsName}
use Rattle.halo_table.specs.declared.fields.TheConstants.{GREATEST_AGE, GREATEST_COUNT}
use Rattle.halo_table.specs.declared.step.TheConstants.{MOST_TABLES}
use Rattle.halo_table.specs.declared.table.TheConstants.{MOST_CAUSES}
use Rattle.halo_table.specs.DecrementTable.{DecrementRow, DecrementTable, TableFile, names_of}

-- a row: at least one survivor, at most 10^12, and no more leavers than survivors, by so many
-- causes
pub record IsSoundRow (causes : ℕ) (row : DecrementRow) : Type 0 where
  pub some : 1 ≤ row.survivors
  pub small : row.survivors ≤ GREATEST_COUNT
  pub by_cause : length row.leavers ≡ causes
  pub fits : sum row.leavers ≤ row.survivors

-- the rows of a table from some age on: each next row has the survivors less the leavers, and in
-- the last row all leave
abbrev pub AreSoundRows : ℕ → List DecrementRow → Type 0
AreSoundRows causes [] = ⊥
AreSoundRows causes (row ∷ []) = IsSoundRow causes row × (sum row.leavers ≡ row.survivors)
AreSoundRows causes (row ∷ next ∷ rest) =
    IsSoundRow causes row × (next.survivors + sum row.leavers ≡ row.survivors)
    × AreSoundRows causes (next ∷ rest)

-- a table: a name, ages up to 150, and its rows
pub record IsSoundTable (causes : ℕ) (t : DecrementTable) : Type 0 where
  pub named : IsName t.name
  pub ages : t.first_age + length t.rows ≤ GREATEST_AGE + 1
  pub rows : AreSoundRows causes t.rows

-- no two of some names are equal
abbrev pub AreApart : List (List ℕ) → Type 0
AreApart names = (i j : ℕ) → i < j → j < length names → get_or names i [] ≢ get_or names j []

-- a file: 1 to 8 causes with names, no two equal, and at most 64 tables, no two of one name
pub record IsSound (file : TableFile) : Type 0 where
  pub some_causes : 1 ≤ length file.causes
  pub few_causes : length file.causes ≤ MOST_CAUSES
  pub causes : All IsName file.causes
  pub causes_apart : AreApart file.causes
  pub few_tables : length file.tables ≤ MOST_TABLES
  pub tables_apart : AreApart (names_of file.tables)
  pub tables : All (IsSoundTable (length file.causes)) file.tables
