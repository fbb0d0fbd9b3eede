-- The names of the tables of the records before a place of a sample's tables file.
use Rattle.std.proofs.Common.{◌≡◌, ℕ, zero, suc, ◌+◌, ◌<◌, ◌≤◌, List, [], ◌∷◌, ◌++◌, ap, arith, inl, inr, length, length-append, refl, sym, ◌∙◌}
use Rattle.std.specs.Prelude.{Contains}
use Rattle.std.proofs.lemmas.List.Elements.{Contains-push_cases}
use Rattle.halo_table.specs.DecrementTable.{names_of}
use Rattle.halo_table.specs.Faults.{names_before}
use Rattle.halo_table.specs.Grouping.{grouped}
use Rattle.halo_table.specs.Record.{field, record_at}
use Rattle.halo_table.proofs.Groups.{names_first, names_new, names_same, rows_none}
use Rattle.halo_sample.specs.declared.tables.Row.{Row}
use Rattle.halo_sample.specs.declared.tables.TheConstants.{LAST_AGE, TABLES}
use Rattle.halo_sampled.proofs.NamesOfTables.{name_at, names-differ}
use Rattle.halo_sampled.proofs.PlacedRecords.{AreRowsOf, name-changes, name-placed, name-stays, next-first_place, next-place, place}

-- the names of the first tables
unfoldable pub first_names : ℕ → List (List ℕ)
first_names zero = []
first_names (suc count) = first_names count ++ name_at count ∷ []

-- they are so many
pub count-first_names : (count : ℕ) → length (first_names count) ≡ count
unfolding first_names
count-first_names zero = refl
count-first_names (suc count) =
    omega (arith, length-append (first_names count) (name_at count ∷ []), count-first_names count)

-- and that of a later table is none of them
pub later-name : (count table : ℕ) → count ≤ table → table < TABLES → Contains (first_names count) (name_at table) → ⊥
unfolding first_names
later-name zero table later known found = absurd (omega (arith, found.1))
later-name (suc count) table later known found =
    elim (Contains-push_cases (first_names count) (name_at count) (name_at table) found) [
      | inl before ↦ later-name count table (omega (arith, later)) known before
      | inr same ↦
          names-differ count table (omega (arith, later, known)) (omega (arith, known))
          (λ e. absurd (omega (arith, later, e))) same
    ]

module _ (all : List (List (List ℕ))) (row : ℕ → ℕ → Row) (rows : AreRowsOf all row) where
  -- the names up to an age of a table, where they are known up to its first age
  names-along : (table : ℕ) → table < TABLES → names_before all (place table 0 + 1) ≡ first_names (suc table)
      → (x : ℕ) → x ≤ LAST_AGE → names_before all (place table x + 1) ≡ first_names (suc table)
  names-along table known begun zero within = begun
  names-along table known begun (suc x) within =
      ap (λ i. names_before all (i + 1)) (next-place table x)
      ∙ names_same all (place table x) (omega arith) (omega (arith, rows.count, known, within))
      (name-stays all row rows table x known within)
      ∙ names-along table known begun x (omega (arith, within))

  -- the names up to the first age of a table
  names-begun : (table : ℕ) → table < TABLES → names_before all (place table 0 + 1) ≡ first_names (suc table)
  unfolding first_names
  names-begun zero known =
      names_first all (omega (arith, rows.count))
      ∙ ap (λ name. name ∷ []) (name-placed all row rows 0 0 known (omega arith))
  names-begun (suc table) known =
      let known_before : table < TABLES = omega (arith, known) in
      let before = names-along table known_before (names-begun table known_before) LAST_AGE (omega arith) in
      let name : field (record_at all (place table LAST_AGE + 1)) 0 ≡ name_at (suc table)
      = ap (λ i. field (record_at all i) 0) (sym (next-first_place table))
      ∙ name-placed all row rows (suc table) 0 known (omega arith) in
      ap (λ i. names_before all (i + 1)) (next-first_place table)
      ∙ names_new all (place table LAST_AGE) (omega arith) (omega (arith, rows.count, known))
      (name-changes all row rows table known)
      ∙ (rw (before, name) refl)

  -- the names before an age that is not the first
  pub names-inside : (table x : ℕ) → table < TABLES → x < LAST_AGE
      → names_before all (place table (suc x)) ≡ first_names (suc table)
  names-inside table x known within =
      ap (names_before all) (next-place table x)
      ∙ names-along table known (names-begun table known) x (omega (arith, within))

  -- and before the first age of a table
  pub names-at_first : (table : ℕ) → table < TABLES → names_before all (place table 0) ≡ first_names table
  unfolding first_names
  names-at_first zero known = ap (λ records. names_of (grouped records)) (rows_none all)
  names-at_first (suc table) known =
      ap (names_before all) (next-first_place table)
      ∙ names-along table (omega (arith, known)) (names-begun table (omega (arith, known)))
      LAST_AGE (omega arith)
