-- The place of a name among some names.
use Rattle.std.proofs.Common.{◌≡◌, ◌≢◌, ◌↔◌, ◌<◌, ◌∙◌, ℕ, List, [], Bool, true, false, length, get_or, bytes_eq, refl, sym, arith}
use Rattle.std.specs.Option.{is_some}
use Rattle.std.specs.Prelude.{Contains, IfNone, IfSome, IsTrue, None, Option, Some}
use Rattle.std.proofs.lemmas.List.{get_or_default, get_or-map, length-map}
use Rattle.std.proofs.lemmas.List.Sums.{passes_at_first, position_or_len_is}
use Rattle.std.proofs.lemmas.Slice.Eq.{bytes_eq-Decides}
use Rattle.halo_table.specs.DecrementTable.{DecrementTable, TableFile, cause_of, empty_table, name_of, names_of, HasRow}
use Rattle.halo_check.specs.Draft.{place_of}
use Rattle.halo_contract.specs.PlainContract.{life_names}
use Rattle.halo_contract.specs.declared.contract.LifeLine.{LifeLine}
use Rattle.halo_check.proofs.Tests.{some_iff}

-- a name that stands at a place is among the names
pub among_at : (names : List (List ℕ)) (name : List ℕ) (p : ℕ) → p < length names → get_or names p [] ≡ name
    → Contains names name
among_at names name p lt at = (p, lt, get_or_default names p name [] lt ∙ at)

-- and where it stands at none, it is not
pub not_among : (names : List (List ℕ)) (name : List ℕ) → ((p : ℕ) → p < length names → get_or names p [] ≢ name)
    → Contains names name → ⊥
not_among names name none (p, lt, at) = none p lt (get_or_default names p [] name lt ∙ at)

-- texts that differ are told apart
differ : (xs ys : List ℕ) → xs ≢ ys → bytes_eq xs ys ≡ false
differ xs ys other = go (bytes_eq xs ys) refl
  where
    go : (b : Bool) → bytes_eq xs ys ≡ b → b ≡ false
    go false e = refl
    go true e = absurd (other ((bytes_eq-Decides xs ys).0 e))

-- the one place at which a name stands is its place
pub place_is : (names : List (List ℕ)) (name : List ℕ) (p : ℕ) → p < length names → get_or names p [] ≡ name
    → ((q : ℕ) → q < length names → get_or names q [] ≡ name → q ≡ p) → p ≡ place_of names name
place_is names name p lt at only =
    sym (position_or_len_is (λ other. bytes_eq other name) names p [] (omega arith)
    (λ k below. differ (get_or names k []) name
    (λ e. let same = only k (omega arith) e in absurd (omega (arith, same))))
    (λ within. (bytes_eq-Decides (get_or names p []) name).1 at))

-- the place of each table's name
name_at : (tables : TableFile) (p : ℕ) → p < length tables.tables
    → get_or (names_of tables.tables) p [] ≡ name_of tables p
name_at tables p lt = get_or-map (λ (t : DecrementTable). t.name) tables.tables p empty_table [] lt

count_of_names : (tables : TableFile) → length (names_of tables.tables) ≡ length tables.tables
count_of_names tables = length-map tables.tables (λ (t : DecrementTable). t.name)

-- the place that a look-up finds is that of the name
pub table_at : (tables : TableFile) (name : List ℕ) (found : Option ℕ)
    → IfSome found (λ p. (p < length tables.tables) × (name_of tables p ≡ name))
    → IfSome found (λ p. (other : ℕ) → other < length tables.tables → name_of tables other ≡ name → other ≡ p)
    → IfSome found (λ p. (p ≡ place_of (names_of tables.tables) name) × (p < length tables.tables))
table_at tables name None at only = tt
table_at tables name (Some p) at only = (
  place_is (names_of tables.tables) name p (rw (count_of_names tables) at.0) (name_at tables p at.0 ∙ at.1)
      (λ q lt e. let within = rw (count_of_names tables) at lt in only q within (sym (name_at tables q within) ∙ e)),
  at.0,
)

-- and where it finds none, the name is not among those of the tables
pub no_table_at : (tables : TableFile) (name : List ℕ) (found : Option ℕ)
    → IfNone found ((p : ℕ) → p < length tables.tables → name_of tables p ≢ name)
    → IfNone found (Contains (names_of tables.tables) name → ⊥)
no_table_at tables name None none =
    not_among (names_of tables.tables) name (λ p lt e. let within = rw (count_of_names tables) at lt in none p within
    (sym (name_at tables p within) ∙ e))
no_table_at tables name (Some p) none = tt

-- a name whose place is one of theirs is among the names
pub among_if_placed : (names : List (List ℕ)) (name : List ℕ) → place_of names name < length names → Contains names name
among_if_placed names name lt =
    among_at names name (place_of names name) lt
    ((bytes_eq-Decides _ name).0 (passes_at_first (λ other. bytes_eq other name) names [] lt))

-- a name at whose place a table has a row is among those of the tables
pub among_of_row : (tables : TableFile) (name : List ℕ) (age : ℕ)
    → HasRow tables (place_of (names_of tables.tables) name) age → Contains (names_of tables.tables) name
among_of_row tables name age row =
    among_if_placed (names_of tables.tables) name (rw (count_of_names tables) row.table_in)

-- what a look-up of a table, a cause or a life finds tells whether the name is among them
pub table_told : (tables : TableFile) (name : List ℕ) (found : Option ℕ)
    → IfSome found (λ p. (p ≡ place_of (names_of tables.tables) name) × (p < length tables.tables))
    → IfNone found (Contains (names_of tables.tables) name → ⊥) → IsTrue (is_some found) ↔ Contains
    (names_of tables.tables) name
table_told tables name found some none =
    some_iff found _ (λ p at. among_if_placed (names_of tables.tables) name (rw (← at.0, count_of_names tables) at.1))
    some none

pub cause_told : (tables : TableFile) (name : List ℕ) (found : Option ℕ)
    → IfSome found (λ p. (p < length tables.causes) × (cause_of tables p ≡ name))
    → IfNone found ((p : ℕ) → p < length tables.causes → cause_of tables p ≢ name) → IsTrue (is_some found) ↔ Contains
    tables.causes name
cause_told tables name None some none = (λ h. absurd cc, λ among. absurd (not_among tables.causes name none among))
cause_told tables name (Some p) some none = (λ h. among_at tables.causes name p some.0 some.1, λ among. refl)

pub life_told : (lives : List LifeLine) (name : List ℕ) (found : Option ℕ)
    → IfSome found (λ p. (p ≡ place_of (life_names lives) name) × (p < length lives))
    → IfNone found (Contains (life_names lives) name → ⊥) → IsTrue (is_some found) ↔ Contains (life_names lives) name
life_told lives name found some none =
    some_iff found _ (λ p at. among_if_placed (life_names lives) name
    (rw (← at.0, length-map lives (λ (line : LifeLine). line.name)) at.1)) some none
