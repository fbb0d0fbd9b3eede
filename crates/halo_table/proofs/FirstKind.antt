-- The first kind of fault of a row, from what holds of it by itself and beside the row before.
use Rattle.std.proofs.Common.{◌≡◌, ◌≢◌, ◌↔◌, ℕ, ◌+◌, ◌-◌, ◌<◌, ◌≤◌, ◌⊎◌, List, Bool, false, arith, get_or, inl, inr, length, map, sym, ◌∙◌}
use Rattle.std.specs.Prelude.{Contains, IsTrue}
use Rattle.std.proofs.lemmas.List.{length-map}
use Rattle.halo_table.specs.DecrementTable.{DecrementTable}
use Rattle.halo_table.specs.Seen.{seen_table}
use Rattle.halo_table.specs.declared.table.Table.{Table}
use Rattle.halo_text.specs.Number.{number}
use Rattle.halo_table.specs.Record.{all_leavers, field}
use Rattle.halo_table.specs.Faults.{Continues, IsFirst, OffAge, OffSurvivors, RowHolds, StepHolds, rank}
use Rattle.halo_table.specs.Reading.{AreNumbers}
use Rattle.halo_table.specs.declared.fault.TableKind.{TableKind}
use Rattle.halo_table.specs.declared.fault.TableKind.TheVariants as kind

-- a kind is the first, where nothing is wrong with the row by itself and none of the others before
-- it holds
pub first_of : (width : ℕ) (names : List (List ℕ)) (first : Bool) (last row : List (List ℕ))
    (k : TableKind)
    → StepHolds width names first last row k
    → ((j : TableKind) → RowHolds width row j → ⊥)
    → (6 < rank k → StepHolds width names first last row kind.Again → ⊥) →
    (7 < rank k → StepHolds width names first last row kind.TooMany → ⊥)
    → (8 < rank k → StepHolds width names first last row kind.Age → ⊥) →
    (9 < rank k → StepHolds width names first last row kind.Decrements → ⊥)
    → IsFirst (StepHolds width names first last row) k
first_of width names first last row k here fine again many age decrements =
    record { here = here; none_before = before }
  where
    before : (j : TableKind) → rank j < rank k → StepHolds width names first last row j → ⊥
    before kind.Header lt h = fine kind.Header h
    before kind.Fields lt h = fine kind.Fields h
    before kind.Name lt h = fine kind.Name h
    before kind.Number lt h = fine kind.Number h
    before kind.Large lt h = fine kind.Large h
    before kind.Again lt h = again lt h
    before kind.TooMany lt h = many lt h
    before kind.Age lt h = age lt h
    before kind.Decrements lt h = decrements lt h
    before kind.Closed lt h = fine kind.Closed h

-- no kind holds
pub none_holds : (width : ℕ) (names : List (List ℕ)) (first : Bool) (last row : List (List ℕ))
    → ((k : TableKind) → RowHolds width row k → ⊥)
    → (StepHolds width names first last row kind.Again → ⊥) →
    (StepHolds width names first last row kind.TooMany → ⊥)
    → (StepHolds width names first last row kind.Age → ⊥) →
    (StepHolds width names first last row kind.Decrements → ⊥)
    → (k : TableKind) → StepHolds width names first last row k → ⊥
none_holds width names first last row fine again many age decrements kind.Header h =
    fine kind.Header h
none_holds width names first last row fine again many age decrements kind.Fields h =
    fine kind.Fields h
none_holds width names first last row fine again many age decrements kind.Name h = fine kind.Name h
none_holds width names first last row fine again many age decrements kind.Number h =
    fine kind.Number h
none_holds width names first last row fine again many age decrements kind.Large h =
    fine kind.Large h
none_holds width names first last row fine again many age decrements kind.Again h = again h
none_holds width names first last row fine again many age decrements kind.TooMany h = many h
none_holds width names first last row fine again many age decrements kind.Age h = age h
none_holds width names first last row fine again many age decrements kind.Decrements h =
    decrements h
none_holds width names first last row fine again many age decrements kind.Closed h =
    fine kind.Closed h

-- the tests of the code are the facts of the definitions
pub off_age_is : (width : ℕ) (first : Bool) (last row : List (List ℕ)) (r b : List ℕ)
    (follows : Bool)
    → 4 ≤ width → (IsTrue follows ↔ Continues first last row)
    → AreNumbers width row r → (first ≡ false → AreNumbers width last b)
    → (IsTrue follows × (get_or r 1 0 ≢ get_or b 1 0 + 1)) ↔ OffAge first last row
off_age_is width first last row r b follows low f here before = (
  (λ h. let co = f.0 h.0 in (
    co,
    (λ e. h.1
        (let x = (here 1 (omega arith) (omega arith)).1 in let y =
        (before co.0 1 (omega arith) (omega arith)).1 in omega arith)),
  )),
  (λ h. (
    f.1 h.0,
    (λ e. h.1 (let x = (here 1 (omega arith) (omega arith)).1 in let y =
        (before h.0.0 1 (omega arith) (omega arith)).1 in omega arith)),
  )),
)

-- the same for survivors and leavers
pub off_survivors_is : (width : ℕ) (first : Bool) (last row : List (List ℕ)) (r b : List ℕ)
    (leaving left : ℕ) (follows : Bool)
    → 4 ≤ width → (IsTrue follows ↔ Continues first last row)
    → AreNumbers width row r → leaving ≡ all_leavers row
    → (first ≡ false → AreNumbers width last b × (left ≡ all_leavers last))
    → ((get_or r 2 0 ≡ 0) ⊎ (get_or r 2 0 < leaving)
    ⊎ (IsTrue follows × (get_or r 2 0 ≢ get_or b 2 0 - left))) ↔ OffSurvivors first last row
off_survivors_is width first last row r b leaving left follows low f here all before =
    let x = (here 2 (omega arith) (omega arith)).1 in
    let y : (e : first ≡ false) → get_or b 2 0 ≡ number (field last 2) =
    (λ e. ((before e).0 2 (omega arith) (omega arith)).1) in (
      (λ h. elim h [
        | inl a ↦ inl (omega arith)
        | inr k ↦ elim k [
          | inl a ↦ inr (inl (omega arith))
          | inr a ↦ let co =
              f.0 a.0 in
              inr (inr (co, (λ e. a.1 (let y2 = y co.0 in let z = (before co.0).1 in omega arith))))
        ]
      ]),
      (λ h. elim h [
        | inl a ↦ inl (omega arith)
        | inr k ↦ elim k [
          | inl a ↦ inr (inl (omega arith))
          | inr a ↦
              inr (inr (
                f.1 a.0,
                (λ e. a.1 (let y2 = y a.0.0 in let z = (before a.0.0).1 in omega
                    arith)),
              ))
        ]
      ]),
    )

-- the test for a name that is there
pub again_is : (width : ℕ) (names : List (List ℕ)) (first : Bool) (last row : List (List ℕ))
    (b continues : Bool)
    → (IsTrue continues ↔ Continues first last row)
    → (IsTrue b ↔ ((IsTrue continues → ⊥) × Contains names (field row 0))) → IsTrue b ↔ StepHolds
    width names first last row kind.Again
again_is width names first last row b continues f h =
    ((λ t. ((λ co. (h.0 t).0 (f.1 co)), (h.0 t).1)), (λ s. h.1 ((λ t. s.0 (f.0 t)), s.1)))

-- the test for one table too many
pub many_is : (width : ℕ) (names : List (List ℕ)) (first : Bool) (last row : List (List ℕ))
    (b continues : Bool) (count : ℕ)
    → count ≡ length names → (IsTrue continues ↔ Continues first last row)
    → (IsTrue b ↔ ((IsTrue continues → ⊥) × (64 ≤ count))) → IsTrue b ↔ StepHolds width names first
    last row kind.TooMany
many_is width names first last row b continues count e f h = (
  (λ t. ((λ co. (h.0 t).0 (f.1 co)), rw (← e) (h.0 t).1)),
  (λ s. h.1 ((λ t. s.0 (f.0 t)), rw e s.1)),
)

-- there are as many names as tables
pub count_of_names : (tables : List Table)
    → length tables ≡ length (map (λ (t : DecrementTable). t.name) (map seen_table tables))
count_of_names tables =
    sym (length-map (map seen_table tables) (λ (t : DecrementTable). t.name)
    ∙ length-map tables seen_table)
