-- The tables that are drawn for a sample.
use Rattle.std.specs.Prelude.{ℕ, zero, suc, List, [], ◌∷◌, ◌++◌, codes, map}
use Rattle.std.specs.Fmt.{decimal}
use Rattle.halo_sample.specs.declared.tables.Row.{Row}
use Rattle.halo_sample.specs.declared.tables.TheConstants.{LAST_AGE, TABLES}
use Rattle.halo_sample.specs.Generator.{state_behind_pairs}
use Rattle.halo_sample.specs.Tables.{table_rows}
use Rattle.halo_table.specs.DecrementTable.{DecrementRow, DecrementTable, TableFile}

-- who is alive at an age, and who of them dies and lapses in the year
abbrev pub drawn_row : Row → DecrementRow
drawn_row row = record { survivors = row.alive; leavers = row.deaths ∷ row.lapses ∷ [] }

-- the table with this number, whose rows are drawn from a state
abbrev pub drawn_table : ℕ → ℕ → DecrementTable
drawn_table table s = record {
  name = codes "t" ++ decimal table;
  first_age = 0;
  rows = map drawn_row (table_rows s);
}

-- so many tables from a number on
unfoldable pub tables_from : ℕ → ℕ → ℕ → List DecrementTable
tables_from zero table s = []
tables_from (suc left) table s =
    drawn_table table s ∷ tables_from left (suc table) (state_behind_pairs LAST_AGE s)

-- all tables of the sample of a number
abbrev pub drawn_tables : ℕ → TableFile
drawn_tables number = record {
  causes = codes "death" ∷ codes "lapse" ∷ [];
  tables = tables_from TABLES 0 number;
}
