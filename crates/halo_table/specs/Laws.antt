-- Laws of the faults and of the tables of a file.
use Rattle.std.specs.Prelude.{◌≡◌, ◌⊎◌, ℕ, List}
use Rattle.halo_table.specs.Faults.{IsFirstFault, NoFault}
use Rattle.halo_table.specs.Grouping.{tables_of}
use Rattle.halo_table.specs.Sound.{IsSound}
use Rattle.halo_table.specs.declared.fault.TableKind.{TableKind}

-- a file has at most one first fault
abbrev pub FirstFaultIsOne : Type 0
FirstFaultIsOne =
    (records : List (List (List ℕ))) (row other_row : ℕ) (k other_kind : TableKind)
    → IsFirstFault records row k → IsFirstFault records other_row other_kind
    → (row ≡ other_row) × (k ≡ other_kind)

-- a file without fault has no first fault
abbrev pub NoFaultIsFirst : Type 0
NoFaultIsFirst =
    (records : List (List (List ℕ))) (row : ℕ) (k : TableKind) → NoFault records
    → IsFirstFault records row k → ⊥

-- every file has no fault, or a first one
abbrev pub NoFaultOrFirst : Type 0
NoFaultOrFirst =
    (records : List (List (List ℕ)))
    → NoFault records ⊎ ((row : ℕ) × (k : TableKind) × IsFirstFault records row k)

-- the tables of a file without fault are sound
abbrev pub TablesAreSound : Type 0
TablesAreSound = (records : List (List (List ℕ))) → NoFault records → IsSound (tables_of records)
