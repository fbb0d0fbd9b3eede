-- The records of a tables file and their fields.
use Rattle.std.specs.Prelude.{◌≡◌, ℕ, ◌<◌, ◌≤◌, ◌==◌, ◌≢◌, List, [], if◌then◌else◌, codes, drop, get_or, length, sum_by}
use Rattle.halo_text.specs.Name.{IsName}
use Rattle.halo_text.specs.Number.{number}
use Rattle.halo_table.specs.declared.fields.TheConstants.{FIRST_CAUSE, GREATEST_AGE, GREATEST_COUNT}

-- a record by its place, from 0, and no fields where there is none
abbrev pub record_at : List (List (List ℕ)) → ℕ → List (List ℕ)
record_at records i = get_or records i []

-- the field at a place, from 0, and no bytes where there is none
abbrev pub field : List (List ℕ) → ℕ → List ℕ
field fields j = get_or fields j []

-- the greatest number that may stand at a place behind the name: an age, and else survivors or
-- leavers
abbrev pub greatest_at : ℕ → ℕ
greatest_at j = if j == 1 then GREATEST_AGE else GREATEST_COUNT

-- the leavers of a row, over all causes
abbrev pub all_leavers : List (List ℕ) → ℕ
all_leavers fields = sum_by number (drop FIRST_CAUSE fields)

-- the cause at a place of record 1 is a name, and no earlier cause has it
pub record IsNewCause (fields : List (List ℕ)) (j : ℕ) : Type 0 where
  pub name : IsName (field fields j)
  pub apart : (i : ℕ) → FIRST_CAUSE ≤ i → i < j → field fields i ≢ field fields j

-- record 1 as it has to be: `table`, `age`, `l`, and the names of the causes, at least one
pub record IsHeader (fields : List (List ℕ)) : Type 0 where
  pub some_cause : FIRST_CAUSE < length fields
  pub table : field fields 0 ≡ codes "table"
  pub age : field fields 1 ≡ codes "age"
  pub survivors : field fields 2 ≡ codes "l"
  pub causes : (j : ℕ) → FIRST_CAUSE ≤ j → j < length fields → IsNewCause fields j
