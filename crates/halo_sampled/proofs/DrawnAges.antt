-- The tables that are drawn: their names, and the ages that they have.
use Rattle.std.proofs.Common.{◌≡◌, ℕ, zero, suc, ◌+◌, ◌<◌, ◌≤◌, List, [], ap, arith, get_or, length, refl, subst, ◌∙◌}
use Rattle.std.specs.Prelude.{Contains}
use Rattle.std.proofs.lemmas.List.{get_or-map, length-map}
use Rattle.halo_table.specs.DecrementTable.{DecrementTable, HasRow, empty_table, last_age_of, names_of}
use Rattle.halo_check.specs.Draft.{place_of}
use Rattle.halo_check.proofs.LivesPlaced.{place_of-lt}
use Rattle.halo_check.proofs.Places.{among_at}
use Rattle.halo_sample.specs.declared.tables.TheConstants.{LAST_AGE, RADIX, TABLES}
use Rattle.halo_sample.specs.Generator.{state_behind_pairs}
use Rattle.halo_sample.specs.Tables.{table_rows}
use Rattle.halo_sample.proofs.SampleTables.{row-count}
use Rattle.halo_sampled.specs.DrawnLines.{table_name}
use Rattle.halo_sampled.specs.DrawnTables.{drawn_row, drawn_tables, tables_from}

-- a table of a name with a row for each age from 0 to the last age
record IsDrawn (t : DecrementTable) (name : List ℕ) : Type 0 where
  named : t.name ≡ name
  first : t.first_age ≡ 0
  ages : length t.rows ≡ LAST_AGE + 1

-- how many tables are drawn
drawn-count : (left table s : ℕ) → length (tables_from left table s) ≡ left
unfolding tables_from
drawn-count zero table s = refl
drawn-count (suc left) table s = omega (arith, drawn-count left (suc table) (state_behind_pairs LAST_AGE s))

-- each of them is such
drawn-at : (left table s p : ℕ) → p < left
    → IsDrawn (get_or (tables_from left table s) p empty_table) (table_name (table + p))
unfolding tables_from
drawn-at zero table s p lt = absurd (omega (arith, lt))
drawn-at (suc left) table s zero lt =
    let same : table ≡ table + 0 = omega arith in
    record {
      named = ap table_name same;
      first = refl;
      ages = length-map (table_rows s) drawn_row ∙ row-count LAST_AGE 0 RADIX s;
    }
drawn-at (suc left) table s (suc p) lt =
    let same : suc table + p ≡ table + suc p = omega arith in
    let behind = state_behind_pairs LAST_AGE s in
    subst (λ n. IsDrawn (get_or (tables_from left (suc table) behind) p empty_table) (table_name n)) same
    (drawn-at left (suc table) behind p (omega (arith, lt)))

module _ (number : ℕ) where
  -- their names
  abbrev drawn_names : List (List ℕ)
  drawn_names = names_of (drawn_tables number).tables

  -- are so many
  count-of-names : length drawn_names ≡ TABLES
  count-of-names =
      length-map (tables_from TABLES 0 number) (λ (t : DecrementTable). t.name) ∙ drawn-count TABLES 0 number

  -- the name of a table is one of them
  pub table-is-known : (table : ℕ) → table < TABLES → Contains drawn_names (table_name table)
  table-is-known table lt =
      let within : table < length (tables_from TABLES 0 number) = omega (arith, lt, drawn-count TABLES 0 number) in
      let at = get_or-map (λ (t : DecrementTable). t.name) (tables_from TABLES 0 number) table empty_table [] within in
      let same : 0 + table ≡ table = omega arith in
      among_at drawn_names (table_name table) table (omega (arith, lt, count-of-names))
      (at ∙ (drawn-at TABLES 0 number table lt).named ∙ ap table_name same)

  -- at a place of the file's
  pub place-is-low : (table : ℕ) → table < TABLES → place_of drawn_names (table_name table) < TABLES
  place-is-low table lt =
      omega (arith, place_of-lt drawn_names (table_name table) (table-is-known table lt), count-of-names)

  -- each table goes to the last age
  pub last-age-is : (place : ℕ) → place < TABLES → last_age_of (drawn_tables number) place ≡ LAST_AGE
  last-age-is place lt = let at = drawn-at TABLES 0 number place lt in omega (arith, at.first, at.ages)

  -- so it has a row at each age up to that
  pub age-is-there : (place age : ℕ) → place < TABLES → age ≤ LAST_AGE → HasRow (drawn_tables number) place age
  age-is-there place age lt within = record {
    table_in = omega (arith, lt, drawn-count TABLES 0 number);
    from_first = let at = drawn-at TABLES 0 number place lt in omega (arith, at.first);
    to_last = omega (arith, within, last-age-is place lt);
  }
