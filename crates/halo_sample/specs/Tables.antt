-- The tables file of a sample.
use Rattle.std.specs.Prelude.{ℕ, zero, suc, ◌+◌, ◌-◌, ◌*◌, ◌/◌, List, [], ◌∷◌, ◌++◌, codes, flat_map}
use Rattle.std.specs.Fmt.{decimal}
use Rattle.halo_sample.specs.declared.tables.Row.{Row}
use Rattle.halo_sample.specs.declared.tables.TheConstants.{DEATH_PARTS, LAPSE_PARTS, LAST_AGE, PARTS, RADIX, TABLES}
use Rattle.halo_sample.specs.Generator.{drawn, drawn_second, state_behind_pairs, state_behind_two}

-- who of l die at age x, and who lapse, where a and b are drawn for them
abbrev pub deaths_of : ℕ → ℕ → ℕ → ℕ
deaths_of l x a = l * (1 + a + 3 * x) / PARTS

abbrev pub lapses_of : ℕ → ℕ → ℕ
lapses_of l b = l * b / PARTS

-- the row of an age at which l are alive: what is drawn first makes the deaths, and what is drawn
-- second the lapses
abbrev pub drawn_row : ℕ → ℕ → ℕ → Row
drawn_row x l s = record {
  age = x;
  alive = l;
  deaths = deaths_of l x (drawn DEATH_PARTS s);
  lapses = lapses_of l (drawn_second LAPSE_PARTS s);
}

-- the row of the last age, at which all who are alive die
abbrev pub last_row : ℕ → Row
last_row l = record { age = LAST_AGE; alive = l; deaths = l; lapses = 0 }

-- who of a row is alive at the next age
abbrev pub staying : Row → ℕ
staying row = row.alive - (row.deaths + row.lapses)

-- the rows of a table from an age on, where so many ages are left before the last one
unfoldable pub rows_from : ℕ → ℕ → ℕ → ℕ → List Row
rows_from zero x l s = last_row l ∷ []
rows_from (suc left) x l s =
    drawn_row x l s ∷ rows_from left (suc x) (staying (drawn_row x l s)) (state_behind_two s)

-- all rows of a table
abbrev pub table_rows : ℕ → List Row
table_rows s = rows_from LAST_AGE 0 RADIX s

-- the line of a row in the table with this number
unfoldable pub row_line : ℕ → Row → List ℕ
row_line table row =
    codes "t" ++ decimal table ++ codes "," ++ decimal row.age ++ codes "," ++ decimal row.alive
    ++ codes "," ++ decimal row.deaths ++ codes "," ++ decimal row.lapses ++ codes "\n"

-- the lines of a table
abbrev pub table_text : ℕ → ℕ → List ℕ
table_text table s = flat_map (row_line table) (table_rows s)

-- the lines of so many tables from a number on
unfoldable pub tables_from : ℕ → ℕ → ℕ → List ℕ
tables_from zero table s = []
tables_from (suc left) table s =
    table_text table s ++ tables_from left (suc table) (state_behind_pairs LAST_AGE s)

-- the tables file
abbrev pub header : List ℕ
header = codes "table,age,l,death,lapse\n"

abbrev pub tables_text : ℕ → List ℕ
tables_text s = header ++ tables_from TABLES 0 s
