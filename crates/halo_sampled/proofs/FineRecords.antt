-- The records of a sample's tables file have no fault.
use Rattle.std.proofs.Common.{◌≡◌, ◌≢◌, ◌==◌, ℕ, zero, suc, ◌-◌, ◌<◌, ◌≤◌, List, ap, arith, inl, inr, length, refl, subst, sym, ◌∙◌}
use Rattle.std.specs.Prelude.{Bool, Contains}
use Rattle.std.proofs.lemmas.Bool.{cases_lt, ne_eqb}
use Rattle.halo_text.specs.Number.{number}
use Rattle.halo_table.specs.Faults.{Continues, Ends, Holds, NoFault, OffAge, OffSurvivors, names_before}
use Rattle.halo_table.specs.Record.{all_leavers, field, record_at}
use Rattle.halo_table.specs.declared.fault.TableKind.{TableKind}
use Rattle.halo_table.specs.declared.fault.TableKind.TheVariants as kind
use Rattle.halo_sample.specs.declared.tables.Row.{Row}
use Rattle.halo_sample.specs.declared.tables.TheConstants.{LAST_AGE, TABLES}
use Rattle.halo_sample.specs.Laws.{leavers}
use Rattle.halo_sample.specs.Records.{sample_records}
use Rattle.halo_sampled.specs.Laws.{TablesHaveNoFault}
use Rattle.halo_sampled.proofs.FieldsOfRecords.{age-read, alive-read, header-fine, leavers-read, name-fine, none-large, none-other}
use Rattle.halo_sampled.proofs.GroupedTables.{tables-drawn}
use Rattle.halo_sampled.proofs.NamedRecords.{count-first_names, later-name, names-at_first, names-inside}
use Rattle.halo_sampled.proofs.PlacedRecords.{AreRowsOf, name-changes, name-placed, name-stays, next-first_place, next-place, place, place-of, sample-placed, sample_row}
use Rattle.halo_sampled.proofs.PlainRecords.{records-read}

module _ (all : List (List (List ℕ))) (row : ℕ → ℕ → Row) (rows : AreRowsOf all row) where
  -- the age of the record of a table and an age
  age-placed : (table x : ℕ) → table < TABLES → x ≤ LAST_AGE → number (field (record_at all (place table x)) 1) ≡ x
  age-placed table x known within =
      rw (rows.at table x known within)
      (age-read table (row table x) (rows.fine table x within) ∙ rows.age table x within)

  -- who are alive in it
  alive-placed : (table x : ℕ) → table < TABLES → x ≤ LAST_AGE
      → number (field (record_at all (place table x)) 2) ≡ (row table x).alive
  alive-placed table x known within =
      rw (rows.at table x known within) (alive-read table (row table x) (rows.fine table x within))

  -- and who leave
  leavers-placed : (table x : ℕ) → table < TABLES → x ≤ LAST_AGE
      → all_leavers (record_at all (place table x)) ≡ leavers (row table x)
  leavers-placed table x known within =
      rw (rows.at table x known within) (leavers-read table (row table x) (rows.fine table x within))

  -- what is said of a record beside the one before it
  abbrev Beside : (Bool → List (List ℕ) → List (List ℕ) → Type 0) → ℕ → Type 0
  Beside says i = says (i == 1) (record_at all (i - 1)) (record_at all i)

  -- the place before that of the next age
  before-next : (table x : ℕ) → place table (suc x) - 1 ≡ place table x
  before-next table x = omega arith

  -- the first age of a table begins it
  begins : (table : ℕ) → table < TABLES → Beside Continues (place table 0) → ⊥
  begins zero known goes_on = cc (goes_on.0)
  begins (suc table) known goes_on =
      let before : place (suc table) 0 - 1 ≡ place table LAST_AGE = omega arith in
      name-changes all row rows table known
      (ap (λ i. field (record_at all i) 0) (sym before) ∙ goes_on.1
      ∙ ap (λ i. field (record_at all i) 0) (next-first_place table))

  -- each other age goes on with its table
  goes-on : (table x : ℕ) → table < TABLES → x < LAST_AGE → Beside Continues (place table (suc x))
  goes-on table x known within = (
    ne_eqb (place table (suc x)) 1 (λ e. absurd (omega (arith, e))),
    ap (λ i. field (record_at all i) 0) (before-next table x) ∙ name-stays all row rows table x known within
        ∙ ap (λ i. field (record_at all i) 0) (sym (next-place table x)),
  )

  -- no age is other than that before and one
  none-off_age : (table x : ℕ) → table < TABLES → x ≤ LAST_AGE → Beside OffAge (place table x) → ⊥
  none-off_age table zero known within off = begins table known off.0
  none-off_age table (suc x) known within off =
      let last : number (field (record_at all (place table (suc x) - 1)) 1) ≡ x
      = ap (λ i. number (field (record_at all i) 1)) (before-next table x)
      ∙ age-placed table x known (omega (arith, within)) in
      off.1 (omega (arith, last, age-placed table (suc x) known within))

  -- no survivors are other than those who stay of the record before
  none-off_survivors : (table x : ℕ) → table < TABLES → x ≤ LAST_AGE → Beside OffSurvivors (place table x) → ⊥
  none-off_survivors table x known within (inl none) =
      absurd (omega (arith, none, alive-placed table x known within, (rows.fine table x within).some))
  none-off_survivors table x known within (inr (inl more)) =
      absurd (omega (
        arith,
        more,
        alive-placed table x known within,
        leavers-placed table x known within,
        (rows.fine table x within).fits,
      ))
  none-off_survivors table zero known within (inr (inr off)) = begins table known off.0
  none-off_survivors table (suc x) known within (inr (inr off)) =
      let early : x < LAST_AGE = omega (arith, within) in
      let last : number (field (record_at all (place table (suc x) - 1)) 2) ≡ (row table x).alive
      = ap (λ i. number (field (record_at all i) 2)) (before-next table x)
      ∙ alive-placed table x known (omega (arith, early)) in
      let left : all_leavers (record_at all (place table (suc x) - 1)) ≡ leavers (row table x)
      = ap (λ i. all_leavers (record_at all i)) (before-next table x)
      ∙ leavers-placed table x known (omega (arith, early)) in
      off.1 (omega (arith, last, left, alive-placed table (suc x) known within, rows.next table x early))

  -- no table comes again
  none-again : (table x : ℕ) → table < TABLES → x ≤ LAST_AGE → (Beside Continues (place table x) → ⊥)
      → Contains (names_before all (place table x)) (field (record_at all (place table x)) 0) → ⊥
  none-again table zero known within new found =
      later-name table table (omega arith) known
      (rw (names-at_first all row rows table known, name-placed all row rows table 0 known within) at found)
  none-again table (suc x) known within new found = new (goes-on table x known (omega (arith, within)))

  -- there are never too many
  few-names : (table x : ℕ) → table < TABLES → x ≤ LAST_AGE → length (names_before all (place table x)) ≤ TABLES
  few-names table zero known within =
      rw (names-at_first all row rows table known) (omega (arith, count-first_names table, known))
  few-names table (suc x) known within =
      rw (names-inside all row rows table x known (omega (arith, within)))
      (omega (arith, count-first_names (suc table), known))

  -- at the end of a table all leave
  none-closed : (table x : ℕ) → table < TABLES → x ≤ LAST_AGE → Ends all (place table x)
      → number (field (record_at all (place table x)) 2) ≢ all_leavers (record_at all (place table x)) → ⊥
  none-closed table x known within ends left_over = elim (cases_lt x LAST_AGE) [
    | inl before ↦
        ends (omega (arith, rows.count, known, before)) (sym (name-stays all row rows table x known before))
    | inr last ↦
        let same : x ≡ LAST_AGE = omega (arith, within, last) in
        let gone : leavers (row table x) ≡ (row table x).alive = rw same (rows.last table) in
        left_over (omega (arith, alive-placed table x known within, leavers-placed table x known within, gone))
  ]

  -- no kind holds of a record behind the first
  row-clean : (table x : ℕ) → table < TABLES → x ≤ LAST_AGE → (k : TableKind) → Holds all (place table x) k → ⊥
  row-clean table x known within kind.Header holds = absurd (omega (arith, holds.0))
  row-clean table x known within kind.Fields holds = holds.1 (rw (rows.first, rows.at table x known within) refl)
  row-clean table x known within kind.Name holds =
      holds.1 (rw (name-placed all row rows table x known within) (name-fine table known))
  row-clean table x known within kind.Number holds =
      none-other table (row table x) (rows.fine table x within) (rw (rows.at table x known within) at holds.1)
  row-clean table x known within kind.Large holds =
      none-large table (row table x) (rows.fine table x within) (rw (rows.at table x known within) at holds.1)
  row-clean table x known within kind.Again holds = none-again table x known within holds.1.0 holds.1.1
  row-clean table x known within kind.TooMany (inl header) = absurd (omega (arith, header.0))
  row-clean table x known within kind.TooMany (inr many) =
      absurd (omega (arith, many.2, few-names table x known within))
  row-clean table x known within kind.Age holds = none-off_age table x known within holds.1
  row-clean table x known within kind.Decrements holds = none-off_survivors table x known within holds.1
  row-clean table x known within kind.Closed holds = none-closed table x known within holds.1 holds.2

  -- nor of the first
  first-clean : (k : TableKind) → Holds all 0 k → ⊥
  first-clean kind.Header holds = holds.1 (rw rows.first header-fine)
  first-clean kind.TooMany (inl many) = absurd (omega (arith, rw rows.first at many.1))
  first-clean kind.TooMany (inr holds) = absurd (omega (arith, holds.0))
  first-clean k holds = absurd (omega (arith, holds.0))

  -- so there is no fault
  pub rows-clean : NoFault all
  rows-clean = (omega (arith, rows.count), clean)
    where
      clean : (i : ℕ) → i < length all → (k : TableKind) → Holds all i k → ⊥
      clean zero within k holds = first-clean k holds
      clean (suc i) within k holds =
          let (table, x, known, young, e) = place-of (suc i) (omega arith) (omega (arith, within, rows.count)) in
          row-clean table x known young k (rw e at holds)

-- the tables file has no fault, and holds the tables that are drawn
pub tables-have-no-fault : TablesHaveNoFault
tables-have-no-fault number = (
  subst NoFault (sym (records-read number))
      (rows-clean (sample_records number) (sample_row number) (sample-placed number)),
  tables-drawn number,
)
