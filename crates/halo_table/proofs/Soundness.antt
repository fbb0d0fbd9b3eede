-- The tables of a file without fault are sound.
use Rattle.std.proofs.Common.{add-one, ◌≡◌, ◌≢◌, ℕ, zero, suc, ◌+◌, ◌-◌, ◌<◌, ◌≤◌, ◌⊎◌, List, [], ◌∷◌, ◌++◌, Bool, true, false, arith, ap, drop, get_or, inl, inr, length, map, refl, sym, ◌∙◌, length-drop}
use Rattle.std.specs.Prelude.{◌==◌, All, Contains, bytes_eq}
use Rattle.std.proofs.lemmas.Bool.{cases_lt}
use Rattle.std.proofs.lemmas.List.{get_or_append_left, get_or_default, get_or_push, length_push, get_or-drop, length-map, take_all}
use Rattle.std.proofs.lemmas.List.Elements.{All-cons, All-from_get_or, All-head, All-nil, All-tail}
use Rattle.std.proofs.lemmas.List.Sums.{sum-map}
use Rattle.std.proofs.lemmas.Slice.Eq.{bytes_eq-Decides}
use Rattle.halo_text.specs.Name.{IsName}
use Rattle.halo_text.specs.Number.{number}
use Rattle.halo_table.specs.DecrementTable.{DecrementRow, DecrementTable}
use Rattle.halo_table.specs.Faults.{Clean, Continues, Holds, NoFault, names_before}
use Rattle.halo_table.specs.Grouping.{grouped, one_row_table, tables_of, with_record, written_row}
use Rattle.halo_table.specs.Record.{IsHeader, all_leavers, field, record_at}
use Rattle.halo_table.specs.Sound.{AreApart, IsSound, IsSoundRow, IsSoundTable}
use Rattle.halo_table.specs.declared.fault.TableKind.TheVariants as kind
use Rattle.std.proofs.Math.Decide.{ℕ_discrete}
use Rattle.halo_table.proofs.Deciding.{dec_header, dec_name, stable}
use Rattle.halo_table.proofs.Groups.{names_first, names_new, names_same, rows_none}
use Rattle.halo_table.proofs.Walk.{next_is, not_one}

-- what is known of a row of a file without fault, where record 1 has so many fields
pub record RowFacts (width : ℕ) (row : List (List ℕ)) : Type 0 where
  pub fields : length row ≡ width
  pub named : IsName (field row 0)
  pub age : number (field row 1) ≤ 150
  pub some : 1 ≤ number (field row 2)
  pub small : number (field row 2) ≤ 1000000000000
  pub fits : all_leavers row ≤ number (field row 2)

pub row_facts : (all : List (List (List ℕ))) (i : ℕ) → 1 ≤ i → 4 ≤ length (record_at all 0)
    → ((k : _) → Holds all i k → ⊥) → RowFacts (length (record_at all 0)) (record_at all i)
row_facts all i some four clean =
    let width : length (record_at all i) ≡ length (record_at all 0) =
    stable (ℕ_discrete _ _) (λ no. clean kind.Fields (omega arith, no)) in
    let off : (number (field (record_at all i) 2) ≡ 0)
    ⊎ (number (field (record_at all i) 2) < all_leavers (record_at all i))
    → ⊥ =
    (λ x. clean kind.Decrements (omega arith, elim x [ inl a ↦ inl a | inr b ↦ inr (inl b) ])) in
    record {
      fields = width;
      named =
          stable (dec_name (field (record_at all i) 0)) (λ no. clean kind.Name (omega arith, no));
      age =
          elim (cases_lt 150 (number (field (record_at all i) 1))) [
            | inl lt ↦ absurd (clean kind.Large (omega arith, (1, omega arith, omega arith, lt)))
            | inr le ↦ le
          ];
      some =
          elim (cases_lt 0 (number (field (record_at all i) 2)))
          [ inl lt ↦ omega arith | inr le ↦ absurd (off (inl (omega arith))) ];
      small =
          elim (cases_lt 1000000000000 (number (field (record_at all i) 2))) [
            | inl lt ↦ absurd (clean kind.Large (omega arith, (2, omega arith, omega arith, lt)))
            | inr le ↦ le
          ];
      fits =
          elim (cases_lt (number (field (record_at all i) 2)) (all_leavers (record_at all i)))
          [ inl lt ↦ absurd (off (inr lt)) | inr le ↦ le ];
    }

-- the row that it writes is sound
sound_written : (width : ℕ) (row : List (List ℕ)) → RowFacts width row
    → IsSoundRow (width - 3) (written_row row)
sound_written width row f = record {
  some = f.some;
  small = f.small;
  by_cause = rw (length-map (drop 3 row) number, length-drop 3 row, f.fields) refl;
  fits = rw (sum-map number (drop 3 row)) f.fits;
}

-- a row that ends its table closes it
sound_one : (width : ℕ) (row : List (List ℕ)) → RowFacts width row
    → number (field row 2) ≡ all_leavers row → IsSoundTable (width - 3) (one_row_table row)
sound_one width row f closed = record {
  named = f.named;
  ages = let a = f.age in omega arith;
  rows = (sound_written width row f, rw (sum-map number (drop 3 row)) (sym closed));
}

-- the first of the tables of some records begins with the first record
pub record Front (row : List (List ℕ)) (tables : List DecrementTable) : Type 0 where
  pub first : DecrementTable
  pub others : List DecrementTable
  pub later : List DecrementRow
  pub tables_are : tables ≡ first ∷ others
  pub name : first.name ≡ field row 0
  pub age : first.first_age ≡ number (field row 1)
  pub rows : first.rows ≡ written_row row ∷ later

-- the first table begins so where a record is put in front
pub front : (row : List (List ℕ)) (tables : List DecrementTable)
    → Front row (with_record row tables)
front row [] =
    record {
      first = one_row_table row;
      others = [];
      later = [];
      tables_are = refl;
      name = refl;
      age = refl;
      rows = refl;
    }
front row (t ∷ tables) = go (bytes_eq t.name (field row 0)) refl
  where
    go : (p : Bool) → bytes_eq t.name (field row 0) ≡ p → Front row (with_record row (t ∷ tables))
    go true e = record {
      first =
          record {
            name = t.name;
            first_age = number (field row 1);
            rows = written_row row ∷ t.rows;
          };
      others = tables;
      later = t.rows;
      tables_are = rw e refl;
      name = (bytes_eq-Decides t.name (field row 0)).0 e;
      age = refl;
      rows = refl;
    }
    go false e =
        record {
          first = one_row_table row;
          others = t ∷ tables;
          later = [];
          tables_are = rw e refl;
          name = refl;
          age = refl;
          rows = refl;
        }

-- a row in front of a sound table of its name
sound_before : (width : ℕ) (row next : List (List ℕ)) (t : DecrementTable)
    (later : List DecrementRow)
    → RowFacts width row → IsSoundTable (width - 3) t → t.first_age ≡ number (field next 1)
    → t.rows ≡ written_row next ∷ later
    → number (field next 1) ≡ number (field row 1) + 1 → number (field next 2)
    ≡ number (field row 2) - all_leavers row
    → IsSoundTable (width - 3) (record {
      name = t.name;
      first_age = number (field row 1);
      rows = written_row row ∷ t.rows;
    })
sound_before width row next t later f s age rows up falls = record {
  named = s.named;
  ages = let a = s.ages in omega arith;
  rows =
      let more = rw rows at s.rows in
      let fits = f.fits in
      rw rows (sound_written width row f, rw (sum-map number (drop 3 row)) (omega arith), more);
}

-- what is known of the record behind a row
pub record NextFacts (row next : List (List ℕ)) : Type 0 where
  pub up : field row 0 ≡ field next 0 → number (field next 1) ≡ number (field row 1) + 1
  pub falls : field row 0 ≡ field next 0
      → number (field next 2) ≡ number (field row 2) - all_leavers row

-- so it is in a file without fault
pub next_facts : (all : List (List (List ℕ))) (i : ℕ) → 1 ≤ i → ((k : _) → Holds all (i + 1) k → ⊥)
    → NextFacts (record_at all i) (record_at all (i + 1))
next_facts all i some clean =
    let back : i + 1 - 1 ≡ i = omega arith in
    let follows : field (record_at all i) 0 ≡ field (record_at all (i + 1)) 0
    → Continues (i + 1 == 1) (record_at all (i + 1 - 1)) (record_at all (i + 1)) =
    (λ e. (not_one (i + 1) (omega arith), rw back e)) in
    record {
      up =
          (λ e. stable (ℕ_discrete _ _) (λ no. clean kind.Age
          (omega arith, (follows e, rw back no))));
      falls =
          (λ e. stable (ℕ_discrete _ _) (λ no. clean kind.Decrements
          (omega arith, inr (inr (follows e, rw back no)))));
    }

-- the tables of the records from a place on are sound
sound_from : (all : List (List (List ℕ))) → 4 ≤ length (record_at all 0) → Clean all (length all)
    → (rest : List (List (List ℕ))) (i : ℕ) → 1 ≤ i → drop i all ≡ rest
    → All (IsSoundTable (length (record_at all 0) - 3)) (grouped rest)
sound_from all four clean [] i some e = All-nil (IsSoundTable (length (record_at all 0) - 3))
sound_from all four clean (row ∷ []) i some e =
    let (room, here, behind) = next_is all [] row i e in
    let facts = row_facts all i some four (clean i room) in
    let end : length all ≤ i + 1 = let h = ap length behind in
    omega (arith, length-drop (i + 1) all) in
    let closed =
    stable (ℕ_discrete (number (field (record_at all i) 2)) (all_leavers (record_at all i)))
    (λ no. clean i room kind.Closed (omega arith, (λ lt q. absurd (omega arith)), no)) in
    All-cons (IsSoundTable (length (record_at all 0) - 3)) (one_row_table row) []
    (sound_one (length (record_at all 0)) row (rw here at facts) (rw here at closed))
    (All-nil (IsSoundTable (length (record_at all 0) - 3)))
sound_from all four clean (row ∷ next ∷ rest) i some e =
    let (room, here, behind) = next_is all (next ∷ rest) row i e in
    let (room2, here2, behind2) = next_is all rest next (i + 1) behind in
    let facts = rw here at (row_facts all i some four (clean i room)) in
    let after = rw (here, here2) at (next_facts all i some (clean (i + 1) room2)) in
    let more = sound_from all four clean (next ∷ rest) (i + 1) (omega arith) behind in
    step (length (record_at all 0)) row next (grouped (next ∷ rest)) facts after
    (front next (grouped rest)) more
    (λ no. stable (ℕ_discrete (number (field row 2)) (all_leavers row))
    (λ differ. clean i room kind.Closed
    (omega arith, (λ lt q. no (sym (rw (here, here2) at q))), rw here differ)))
  where
    step : (width : ℕ) (row next : List (List ℕ)) (tables : List DecrementTable)
        → RowFacts width row → NextFacts row next → Front next tables
        → All (IsSoundTable (width - 3)) tables
        → ((field row 0 ≡ field next 0 → ⊥) → number (field row 2) ≡ all_leavers row) → All
        (IsSoundTable (width - 3)) (with_record row tables)
    step width row next tables facts after fr sound closed =
        rw fr.tables_are (go (bytes_eq fr.first.name (field row 0)) refl)
      where
        known : All (IsSoundTable (width - 3)) (fr.first ∷ fr.others)
        known = rw fr.tables_are at sound

        go : (p : Bool) → bytes_eq fr.first.name (field row 0) ≡ p
            → All (IsSoundTable (width - 3)) (with_record row (fr.first ∷ fr.others))
        go true e =
            let same : field row 0 ≡ field next 0 =
            sym ((bytes_eq-Decides fr.first.name (field row 0)).0 e) ∙ fr.name in
            rw e (All-cons (IsSoundTable (width - 3)) _ fr.others
            (sound_before width row next fr.first fr.later facts
            (All-head (IsSoundTable (width - 3)) fr.first fr.others known) fr.age fr.rows
            (after.up same) (after.falls same))
            (All-tail (IsSoundTable (width - 3)) fr.first fr.others known))
        go false e =
            let other : field row 0 ≡ field next 0 → ⊥ =
            (λ q. cc ((bytes_eq-Decides fr.first.name (field row 0)).1 (fr.name ∙ sym q))) in
            rw e (All-cons (IsSoundTable (width - 3)) (one_row_table row) (fr.first ∷ fr.others)
            (sound_one width row facts (closed other)) known)

-- what is known of the names of the tables
record NamesKnown (names : List (List ℕ)) : Type 0 where
  few : length names ≤ 64
  apart : AreApart names

-- names with one more that is new
apart_more : (names : List (List ℕ)) (name : List ℕ) → AreApart names → (Contains names name → ⊥)
    → AreApart (names ++ name ∷ [])
apart_more names name apart new i j less lt =
    let whole : length (names ++ name ∷ []) ≡ length names + 1 = length_push names name in
    let early : (k : ℕ) → k < length names → get_or (names ++ name ∷ []) k [] ≡ get_or names k [] =
    (λ k room. get_or_append_left names (name ∷ []) [] k room) in
    elim (cases_lt j (length names)) [
      | inl room ↦ (λ e. apart i j less room (sym (early i (omega arith)) ∙ e ∙ early j room))
      | inr le ↦ (λ e. new (
        i,
        omega arith,
        get_or_default names i name [] (omega arith) ∙ sym (early i (omega arith)) ∙ e
            ∙ get_or_push names name [] j (omega arith),
      ))
    ]

-- no names, and one name
apart_none : AreApart []
apart_none i j less lt = absurd (omega arith)

apart_one : (name : List ℕ) → AreApart (name ∷ [])
apart_one name i j less lt = absurd (omega arith)

-- the names with the next row
names_next : (all : List (List (List ℕ))) (n : ℕ) → Clean all (length all) → 1 ≤ n
    → n + 1 < length all → NamesKnown (names_before all (n + 1))
    → NamesKnown (names_before all (n + 1 + 1))
names_next all n clean some room known =
    go (bytes_eq (field (record_at all n) 0) (field (record_at all (n + 1)) 0)) refl
  where
    go : (p : Bool) → bytes_eq (field (record_at all n) 0) (field (record_at all (n + 1)) 0) ≡ p
        → NamesKnown (names_before all (n + 1 + 1))
    go true e =
        rw (names_same all n some room ((bytes_eq-Decides (field (record_at all n) 0)
        (field (record_at all (n + 1)) 0)).0 e)) known
    go false e =
        let differ : field (record_at all n) 0 ≢ field (record_at all (n + 1)) 0 =
        (λ q. cc ((bytes_eq-Decides (field (record_at all n) 0)
        (field (record_at all (n + 1)) 0)).1 q)) in
        let back : n + 1 - 1 ≡ n = omega arith in
        let starts : Continues (n + 1 == 1) (record_at all (n + 1 - 1)) (record_at all (n + 1))
        → ⊥ =
        (λ co. differ (rw back at co.1)) in
        let more : length (names_before all (n + 1) ++ field (record_at all (n + 1)) 0 ∷ [])
        ≡ length (names_before all (n + 1)) + 1 =
        length_push (names_before all (n + 1)) (field (record_at all (n + 1)) 0) in
        let full : 64 ≤ length (names_before all (n + 1)) → ⊥ =
        (λ le. clean (n + 1) room kind.TooMany (inr (omega arith, starts, le))) in
        rw (names_new all n some room differ) (record {
          few = omega arith;
          apart =
              apart_more (names_before all (n + 1)) (field (record_at all (n + 1)) 0) known.apart
              (λ there. clean (n + 1) room kind.Again (omega arith, (starts, there)));
        })

-- what is known of the names in the first n + 1 records
names_known : (all : List (List (List ℕ))) (n : ℕ) → Clean all (length all) → n + 1 ≤ length all
    → NamesKnown (names_before all (n + 1))
names_known all zero clean room =
    rw (rows_none all) (record { few = omega arith; apart = apart_none })
names_known all (suc zero) clean room =
    rw (names_first all (omega arith)) (record {
      few = omega arith;
      apart = apart_one (field (record_at all 1) 0);
    })
names_known all (suc (suc m)) clean room =
    rw (← add-one (suc m)) (names_next all (suc m) clean (omega arith) (omega arith)
    (names_known all (suc m) clean (omega arith)))

-- no two causes of record 1 are equal
apart_causes : (header : List (List ℕ)) → IsHeader header → AreApart (drop 3 header)
apart_causes header h i j less lt =
    let end = length-drop 3 header in
    rw (get_or-drop 3 header i [], get_or-drop 3 header j [])
    ((h.causes (3 + j) (omega arith) (omega arith)).apart (3 + i) (omega arith) (omega arith))

-- the tables of a file without fault are sound, where its record 1 is as it has to be
sound_tables : (all : List (List (List ℕ))) → IsHeader (record_at all 0) → NoFault all
    → IsSound (tables_of all)
sound_tables all header fine =
    let has_cause = header.some_cause in
    let causes : length (drop 3 (record_at all 0)) ≡ length (record_at all 0) - 3 =
    length-drop 3 (record_at all 0) in
    let few : length (record_at all 0) ≤ 11 =
    elim (cases_lt 11 (length (record_at all 0)))
    [ inl lt ↦ absurd (fine.1 0 fine.0 kind.TooMany (inl (refl, lt))) | inr le ↦ le ] in
    record {
      some_causes = omega arith;
      few_causes = omega arith;
      causes =
          All-from_get_or IsName (drop 3 (record_at all 0)) []
          (λ i lt. rw (get_or-drop 3 (record_at all 0) i [])
          (header.causes (3 + i) (omega arith) (omega arith)).name);
      few_tables =
          let few = known.few in
          omega (arith, length-map (grouped (drop 1 all)) (λ (t : DecrementTable). t.name));
      causes_apart = apart_causes (record_at all 0) header;
      tables_apart = known.apart;
      tables = rw causes (sound_from all header.some_cause fine.1 (drop 1 all) 1 (omega arith) refl);
    }
  where
    known : NamesKnown (map (λ (t : DecrementTable). t.name) (grouped (drop 1 all)))
    known =
        let end : length all - 1 + 1 ≡ length all = let some = fine.0 in omega arith in
        let h = names_known all (length all - 1) fine.1 (omega arith) in
        rw (end, take_all (length all) all (omega arith)) at h

-- the tables of a file without fault are sound
pub sound_of_fine : (all : List (List (List ℕ))) → NoFault all → IsSound (tables_of all)
sound_of_fine all fine =
    sound_tables all (stable (dec_header (record_at all 0))
    (λ no. fine.1 0 fine.0 kind.Header (refl, no))) fine
