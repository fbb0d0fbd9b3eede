-- The tables of a file: its rows, grouped by their first field.
use Rattle.std.specs.Prelude.{ℕ, List, [], ◌∷◌, bytes_eq, drop, if◌then◌else◌, map}
use Rattle.halo_text.specs.Number.{number}
use Rattle.halo_table.specs.declared.fields.TheConstants.{FIRST_CAUSE, SURVIVORS}
use Rattle.halo_table.specs.Record.{field, record_at}
use Rattle.halo_table.specs.DecrementTable.{DecrementRow, DecrementTable, TableFile}

-- the row that a record writes: its third field is the survivors, each later one the leavers by a
-- cause
abbrev pub written_row : List (List ℕ) → DecrementRow
written_row fields =
    record {
      survivors = number (field fields SURVIVORS);
      leavers = map number (drop FIRST_CAUSE fields);
    }

-- a table of one row: its name is the record's first field, its first age the second
abbrev pub one_row_table : List (List ℕ) → DecrementTable
one_row_table fields =
    record {
      name = field fields 0;
      first_age = number (field fields 1);
      rows = written_row fields ∷ [];
    }

-- a record before some tables: its row goes to the front of the first table, where it has that
-- table's name, and else begins a table
abbrev pub with_record : List (List ℕ) → List DecrementTable → List DecrementTable
with_record fields [] = one_row_table fields ∷ []
with_record fields (t ∷ tables) =
    if bytes_eq t.name (field fields 0) then record {
      name = t.name;
      first_age =
          number (field fields 1);
      rows =
          written_row fields ∷ t.rows;
    } ∷ tables else one_row_table fields ∷ t ∷ tables

-- the tables of the records behind record 1: records with one name that stand together are one
-- table
abbrev pub grouped : List (List (List ℕ)) → List DecrementTable
grouped [] = []
grouped (fields ∷ rest) = with_record fields (grouped rest)

-- what a file with these records holds: record 1 names the causes behind `table`, `age` and `l`,
-- and the others are the rows
abbrev pub tables_of : List (List (List ℕ)) → TableFile
tables_of records =
    record { causes = drop FIRST_CAUSE (record_at records 0); tables = grouped (drop 1 records) }
