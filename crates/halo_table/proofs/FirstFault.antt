-- A file has no fault or one first fault.
use Rattle.std.proofs.Common.{◌≡◌, ℕ, ◌+◌, ◌-◌, ◌<◌, ◌≤◌, ◌⊎◌, List, [], ◌∷◌, Bool, false, arith, inl, inr, length, refl}
use Rattle.std.specs.Prelude.{◌==◌}
use Rattle.std.proofs.Math.Bool.{Bool-discrete}
use Rattle.std.proofs.Math.Decide.{map_dec, dec_le, dec_lt, ℕ_discrete}
use Rattle.std.proofs.Math.Logic.Dec
use Rattle.std.proofs.lemmas.Bool.{cases_lt, cases_order}
use Rattle.halo_text.specs.Number.{IsNumber, number}
use Rattle.halo_table.specs.Faults.{Continues, Ends, HasLarge, HasOther, Holds, IsFirst, IsFirstFault, NoFault, OffAge, OffSurvivors, names_before, rank}
use Rattle.halo_table.specs.Record.{IsHeader, all_leavers, field, greatest_at, record_at}
use Rattle.halo_table.specs.declared.fault.TableKind.{TableKind}
use Rattle.halo_table.specs.declared.fault.TableKind.TheVariants as kind
use Rattle.halo_table.proofs.Deciding.{dec_bytes, dec_contains, dec_header, dec_if, dec_name, dec_number, dec_or, dec_some, first_place}
use Rattle.halo_table.proofs.KindOrder.{first_kind, rank_one}

-- a first fault is no later than another one's row
no_later : (all : List (List (List ℕ))) (a b : ℕ) (j k : TableKind) → IsFirstFault all a j
    → IsFirstFault all b k → a < b → ⊥
no_later all a b j k f g lt =
    let low = f.counted in
    g.clean (a - 1) (omega arith) j f.kind_first.here

-- a first kind has no other first kind before it
no_before : (all : List (List (List ℕ))) (i : ℕ) (j k : TableKind) → IsFirst (Holds all i) j
    → IsFirst (Holds all i) k → rank j < rank k → ⊥
no_before all i j k f g lt = g.none_before j lt f.here

-- there is at most one first fault
pub first_is_one : (all : List (List (List ℕ))) (a b : ℕ) (j k : TableKind) → IsFirstFault all a j
    → IsFirstFault all b k → (a ≡ b) × (j ≡ k)
first_is_one all a b j k f g =
    let same : a ≡ b =
    elim (cases_order a b) [
      | inl e ↦ e
      | inr h ↦ elim h [
        | inl lt ↦ absurd (no_later all a b j k f g lt)
        | inr lt ↦ absurd
            (no_later all b a k j g f lt)
      ]
    ] in
    let other : IsFirst (Holds all (a - 1)) k = rw same g.kind_first in
    let ranks : rank j ≡ rank k = elim (cases_order (rank j) (rank k)) [
      | inl e ↦ e
      | inr h ↦ elim h [
        | inl lt ↦ absurd (no_before all (a - 1) j k f.kind_first other lt)
        | inr lt ↦ absurd (no_before all (a - 1) k j other f.kind_first lt)
      ]
    ] in
    (same, rank_one j k ranks)

-- a file without fault has no first fault
pub fine_or_fault : (all : List (List (List ℕ))) (a : ℕ) (k : TableKind) → NoFault all
    → IsFirstFault all a k → ⊥
fine_or_fault all a k fine f =
    let one = f.counted in
    elim f.within [
      | inl e ↦ fine.1 (a - 1) (let some = fine.0 in omega arith) k f.kind_first.here
      | inr le ↦ fine.1 (a - 1) (omega arith) k f.kind_first.here
    ]

-- a field behind the name, one of the first so many, for which a fact holds
dec_field : (P : ℕ → Type 0) → ((j : ℕ) → Dec (P j)) → (width : ℕ)
    → Dec ((j : ℕ) × (1 ≤ j) × (j < width) × P j)
dec_field P d width =
    map_dec (λ (j, lt, (low, h)). (j, low, lt, h)) (λ (j, low, lt, h). (j, lt, (low, h)))
    (dec_some (λ j. (1 ≤ j) × P j) (λ j. Dec.and (dec_le 1 j) (d j)) width)

-- three facts
dec_three : {P Q R : Type 0} → Dec P → Dec Q → Dec R → Dec (P × Q × R)
dec_three p q r =
    map_dec (λ h. (h.0, h.1.0, h.1.1)) (λ h. (h.0, (h.1, h.2))) (Dec.and p (Dec.and q r))

-- one of a row's fields, behind its name, is no number
dec_other : (row : List (List ℕ)) → Dec (HasOther (length row) row)
dec_other row =
    dec_field (λ j. IsNumber (field row j) → ⊥) (λ j. Dec.not (dec_number (field row j)))
    (length row)

-- one of a row's fields, behind its name, is a number that is too large
dec_large : (row : List (List ℕ)) → Dec (HasLarge (length row) row)
dec_large row =
    dec_field (λ j. greatest_at j < number (field row j))
    (λ j. dec_lt (greatest_at j) (number (field row j))) (length row)

-- the row does not start a table
dec_continues : (first : Bool) (last row : List (List ℕ)) → Dec (Continues first last row)
dec_continues first last row =
    Dec.and (Bool-discrete first false) (dec_bytes (field last 0) (field row 0))

-- its age is off
dec_off_age : (first : Bool) (last row : List (List ℕ)) → Dec (OffAge first last row)
dec_off_age first last row =
    Dec.and (dec_continues first last row)
    (Dec.not (ℕ_discrete (number (field row 1)) (number (field last 1) + 1)))

-- its survivors are off
dec_off_survivors : (first : Bool) (last row : List (List ℕ)) → Dec (OffSurvivors first last row)
dec_off_survivors first last row =
    dec_or (ℕ_discrete (number (field row 2)) 0)
    (dec_or (dec_lt (number (field row 2)) (all_leavers row))
    (Dec.and (dec_continues first last row)
    (Dec.not (ℕ_discrete (number (field row 2))
    (number (field last 2) - all_leavers last)))))

-- the row is the last of its table
dec_ends : (all : List (List (List ℕ))) (i : ℕ) → Dec (Ends all i)
dec_ends all i =
    dec_if (dec_lt (i + 1) (length all))
    (Dec.not (dec_bytes (field (record_at all (i + 1)) 0) (field (record_at all i) 0)))

-- a kind of fault holds of the record at a place
dec_holds : (all : List (List (List ℕ))) (i : ℕ) (k : TableKind) → Dec (Holds all i k)
dec_holds all i kind.Header = Dec.and (ℕ_discrete i 0) (Dec.not (dec_header (record_at all 0)))
dec_holds all i kind.Fields =
    Dec.and (dec_lt 0 i) (Dec.not (ℕ_discrete (length (record_at all i))
    (length (record_at all 0))))
dec_holds all i kind.Name = Dec.and (dec_lt 0 i) (Dec.not (dec_name (field (record_at all i) 0)))
dec_holds all i kind.Number = Dec.and (dec_lt 0 i) (dec_other (record_at all i))
dec_holds all i kind.Large = Dec.and (dec_lt 0 i) (dec_large (record_at all i))
dec_holds all i kind.Again =
    Dec.and (dec_lt 0 i) (Dec.and (Dec.not
    (dec_continues (i == 1) (record_at all (i - 1)) (record_at all i)))
    (dec_contains (names_before all i) (field (record_at all i) 0)))
dec_holds all i kind.TooMany =
    dec_or (Dec.and (ℕ_discrete i 0) (dec_lt 11 (length (record_at all 0))))
    (dec_three (dec_lt 0 i) (Dec.not (dec_continues (i == 1) (record_at all (i - 1))
    (record_at all i))) (dec_le 64 (length (names_before all i))))
dec_holds all i kind.Age =
    Dec.and (dec_lt 0 i) (dec_off_age (i == 1) (record_at all (i - 1)) (record_at all i))
dec_holds all i kind.Decrements =
    Dec.and (dec_lt 0 i) (dec_off_survivors (i == 1) (record_at all (i - 1)) (record_at all i))
dec_holds all i kind.Closed =
    dec_three (dec_lt 0 i) (dec_ends all i)
    (Dec.not (ℕ_discrete (number (field (record_at all i) 2)) (all_leavers (record_at all i))))

-- without a record there is no record 1 as it has to be
no_header : (all : List (List (List ℕ))) → length all ≤ 0 → IsHeader (record_at all 0) → ⊥
no_header [] none h = let has_cause = h.some_cause in absurd (omega arith)
no_header (r ∷ rest) none h = absurd (omega arith)

-- a file has no fault or a first one; record 1 is looked at also where there is no record
pub fault_or_none : (all : List (List (List ℕ)))
    → NoFault all ⊎ ((row : ℕ) × (k : TableKind) × IsFirstFault all row k)
fault_or_none all = elim (first_place IsFaulty faulty (length all - 1 + 1)) [
  | inl (i, lt, (k, here), before) ↦ elim (first_kind (Holds all i) (dec_holds all i)) [
    | inl (first, f) ↦ (let back : i + 1 - 1 ≡ i = omega arith in inr (
      i + 1,
      first,
      record {
        counted = omega arith;
        within =
            elim (cases_lt i (length all)) [
              | inl room ↦ inr (omega arith)
              | inr end ↦ inl
                  (omega arith)
            ];
        kind_first = rw back f;
        clean = rw back (λ j less other h. before j less (other, h));
      },
    ))
    | inr none ↦ absurd (none k here)
  ]
  | inr none ↦ inl (some none, (λ i lt k h. none i (omega arith) (k, h)))
]
  where
    IsFaulty : ℕ → Type 0
    IsFaulty i = (k : TableKind) × Holds all i k

    faulty : (i : ℕ) → Dec (IsFaulty i)
    faulty i =
        elim (first_kind (Holds all i) (dec_holds all i))
        [ inl (k, f) ↦ yes (k, f.here) | inr none ↦ no (λ (k, h). none k h) ]

    some : ((j : ℕ) → j < length all - 1 + 1 → IsFaulty j → ⊥) → 0 < length all
    some none =
        elim (cases_lt 0 (length all)) [
          | inl lt ↦ lt
          | inr le ↦ absurd
              (none 0 (omega arith) (kind.Header, (refl, no_header all le)))
        ]
