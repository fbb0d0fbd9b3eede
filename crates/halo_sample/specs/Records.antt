-- The records of the tables file of a sample, each with its fields.
use Rattle.std.specs.Prelude.{ℕ, zero, suc, List, [], ◌∷◌, ◌++◌, codes, map}
use Rattle.std.specs.Fmt.{decimal}
use Rattle.std.specs.List.{join_with_byte}
use Rattle.halo_sample.specs.declared.tables.Row.{Row}
use Rattle.halo_sample.specs.declared.tables.TheConstants.{LAST_AGE, TABLES}
use Rattle.halo_sample.specs.Generator.{state_behind_pairs}
use Rattle.halo_sample.specs.Tables.{table_rows}

-- the line of a record: its fields with a comma between each two
abbrev pub record_line : List (List ℕ) → List ℕ
record_line fields = join_with_byte 44 fields ++ codes "\n"

-- record 1, with the two causes
abbrev pub header_fields : List (List ℕ)
header_fields =
    codes "table" ∷ codes "age" ∷ codes "l" ∷ codes "death" ∷ codes "lapse" ∷ []

-- the record of a row in the table with this number
abbrev pub row_fields : ℕ → Row → List (List ℕ)
row_fields table row =
    (codes "t" ++ decimal table) ∷ decimal row.age ∷ decimal row.alive ∷ decimal row.deaths
    ∷ decimal row.lapses ∷ []

-- the records of so many tables from a number on
unfoldable pub records_from : ℕ → ℕ → ℕ → List (List (List ℕ))
records_from zero table s = []
records_from (suc left) table s =
    map (row_fields table) (table_rows s)
    ++ records_from left (suc table) (state_behind_pairs LAST_AGE s)

-- all records of the tables file of a number
abbrev pub sample_records : ℕ → List (List (List ℕ))
sample_records number = header_fields ∷ records_from TABLES 0 number
