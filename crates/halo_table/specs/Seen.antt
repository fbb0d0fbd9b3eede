-- The tables as they lie in memory, seen as plain data.
use Rattle.std.specs.Prelude.{ℕ, List, map}
use Rattle.halo_table.specs.DecrementTable.{DecrementRow, DecrementTable, TableFile}
use Rattle.halo_table.specs.declared.table.Row.{Row}
use Rattle.halo_table.specs.declared.table.Table.{Table}

-- a row in memory as a row of a table
abbrev pub seen_row : Row → DecrementRow
seen_row row = record { survivors = row.survivors; leavers = row.leavers.items }

-- a table in memory as a table
abbrev pub seen_table : Table → DecrementTable
seen_table t = record { name = t.name; first_age = t.first_age; rows = map seen_row t.rows.items }

-- some tables in memory as tables
abbrev pub seen_tables : List Table → List DecrementTable
seen_tables tables = map seen_table tables

-- some causes and tables in memory as what a file holds
abbrev pub seen_file : List (List ℕ) → List Table → TableFile
seen_file causes tables = record { causes = causes; tables = seen_tables tables }
