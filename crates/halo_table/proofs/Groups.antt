-- The tables of some records, with one record more behind them.
use Rattle.std.proofs.Common.{◌≡◌, ℕ, ◌+◌, ◌<◌, ◌≤◌, ◌≢◌, List, [], ◌∷◌, ◌++◌, Bool, true, false, arith, ap, drop, get_or, length, map, refl, sym, take, ◌∙◌}
use Rattle.std.specs.Prelude.{bytes_eq, if◌then◌else◌}
use Rattle.std.proofs.lemmas.List.{drop-append-le, length-take, map-append, take_all, take_more}
use Rattle.std.proofs.lemmas.Slice.Eq.{bytes_eq-Decides}
use Rattle.halo_table.specs.DecrementTable.{DecrementRow, DecrementTable}
use Rattle.halo_table.specs.Faults.{names_before}
use Rattle.halo_table.specs.Grouping.{grouped, one_row_table, with_record, written_row}
use Rattle.halo_table.specs.Reading.{AreRowNumbers, IsLastName, with_last_row}
use Rattle.halo_table.specs.declared.row.RowNumbers.{RowNumbers}
use Rattle.halo_table.specs.Record.{field, record_at}

-- some tables with a record more behind them: its row goes behind those of the last table, where it
-- has that table's name, and else begins one
abbrev pub behind : List DecrementTable → List (List ℕ) → List DecrementTable
behind [] r = one_row_table r ∷ []
behind (t ∷ []) r =
    if bytes_eq t.name (field r 0) then record {
      name = t.name;
      first_age = t.first_age;
      rows = t.rows ++ written_row r ∷ [];
    } ∷ [] else t ∷ one_row_table r ∷ []
behind (t ∷ next ∷ rest) r = t ∷ behind (next ∷ rest) r

-- it is one thing whether a record is first put in front or behind
swapped : (x r : List (List ℕ)) (ts : List DecrementTable)
    → with_record x (behind ts r) ≡ behind (with_record x ts) r
swapped x r [] = go (bytes_eq (field r 0) (field x 0)) refl (bytes_eq (field x 0) (field r 0)) refl
  where
    go : (p : Bool) → bytes_eq (field r 0) (field x 0) ≡ p → (q : Bool)
        → bytes_eq (field x 0) (field r 0) ≡ q
        → with_record x (behind [] r) ≡ behind (with_record x []) r
    go true e true f =
        let same = (bytes_eq-Decides (field r 0) (field x 0)).0 e in
        rw (e, f, same) refl
    go true e false f =
        cc ((bytes_eq-Decides (field x 0) (field r 0)).1
        (sym ((bytes_eq-Decides (field r 0) (field x 0)).0 e)))
    go false e true f =
        cc ((bytes_eq-Decides (field r 0) (field x 0)).1
        (sym ((bytes_eq-Decides (field x 0) (field r 0)).0 f)))
    go false e false f = rw (e, f) refl
swapped x r (t ∷ []) = go (bytes_eq t.name (field r 0)) refl (bytes_eq t.name (field x 0)) refl
  where
    go : (p : Bool) → bytes_eq t.name (field r 0) ≡ p → (q : Bool) → bytes_eq t.name (field x 0) ≡ q
        → with_record x (behind (t ∷ []) r) ≡ behind (with_record x (t ∷ [])) r
    go true e true f = simp (e, f)
    go true e false f = simp (e, f)
    go false e true f = simp (e, f)
    go false e false f = simp (e, f)
swapped x r (t ∷ u ∷ ts) = go (bytes_eq t.name (field x 0)) refl
  where
    go : (q : Bool) → bytes_eq t.name (field x 0) ≡ q
        → with_record x (behind (t ∷ u ∷ ts) r) ≡ behind (with_record x (t ∷ u ∷ ts)) r
    go true f = simp f
    go false f = simp f

-- the tables of some records and one more
pub grouped_behind : (rows : List (List (List ℕ))) (r : List (List ℕ))
    → grouped (rows ++ r ∷ []) ≡ behind (grouped rows) r
grouped_behind [] r = refl
grouped_behind (x ∷ xs) r =
    ap (λ (ts : List DecrementTable). with_record x ts) (grouped_behind xs r)
    ∙ swapped x r (grouped xs)

-- a record with the name of the last table
behind_last : (ts : List DecrementTable) (r : List (List ℕ)) → IsLastName ts (field r 0)
    → behind ts r ≡ with_last_row ts (written_row r)
behind_last [] r h = absurd h
behind_last (t ∷ []) r h = rw ((bytes_eq-Decides t.name (field r 0)).1 h) refl
behind_last (t ∷ u ∷ ts) r h = ap (λ (xs : List DecrementTable). t ∷ xs) (behind_last (u ∷ ts) r h)

-- a record with another name
behind_new : (ts : List DecrementTable) (r : List (List ℕ)) → (IsLastName ts (field r 0) → ⊥)
    → behind ts r ≡ ts ++ one_row_table r ∷ []
behind_new [] r h = refl
behind_new (t ∷ []) r h = go (bytes_eq t.name (field r 0)) refl
  where
    go : (p : Bool) → bytes_eq t.name (field r 0) ≡ p
        → behind (t ∷ []) r ≡ (t ∷ []) ++ one_row_table r ∷ []
    go true e = absurd (h ((bytes_eq-Decides t.name (field r 0)).0 e))
    go false e = rw e refl
behind_new (t ∷ u ∷ ts) r h = ap (λ (xs : List DecrementTable). t ∷ xs) (behind_new (u ∷ ts) r h)

-- one record more with the name of the last table
pub grouped_last : (rows : List (List (List ℕ))) (r : List (List ℕ))
    → IsLastName (grouped rows) (field r 0)
    → grouped (rows ++ r ∷ []) ≡ with_last_row (grouped rows) (written_row r)
grouped_last rows r h = grouped_behind rows r ∙ behind_last (grouped rows) r h

-- one record more with another name
pub grouped_new : (rows : List (List (List ℕ))) (r : List (List ℕ))
    → (IsLastName (grouped rows) (field r 0) → ⊥)
    → grouped (rows ++ r ∷ []) ≡ grouped rows ++ one_row_table r ∷ []
grouped_new rows r h = grouped_behind rows r ∙ behind_new (grouped rows) r h

-- there is a table with the record's row
behind_some : (ts : List DecrementTable) (r : List (List ℕ))
    → (t : DecrementTable) × (more : List DecrementTable) × (behind ts r ≡ t ∷ more)
behind_some [] r = (one_row_table r, [], refl)
behind_some (t ∷ []) r = go (bytes_eq t.name (field r 0)) refl
  where
    go : (p : Bool) → bytes_eq t.name (field r 0) ≡ p
        → (u : DecrementTable) × (more : List DecrementTable) × (behind (t ∷ []) r ≡ u ∷ more)
    go true e = (
      record {
        name = t.name;
        first_age = t.first_age;
        rows = t.rows ++ written_row r ∷ [];
      },
      [],
      rw e refl,
    )
    go false e = (t, one_row_table r ∷ [], rw e refl)
behind_some (t ∷ u ∷ ts) r = (t, behind (u ∷ ts) r, refl)

-- the last table has the name of the last record
behind_name : (ts : List DecrementTable) (r : List (List ℕ)) → IsLastName (behind ts r) (field r 0)
behind_name [] r = refl
behind_name (t ∷ []) r = go (bytes_eq t.name (field r 0)) refl
  where
    go : (p : Bool) → bytes_eq t.name (field r 0) ≡ p → IsLastName (behind (t ∷ []) r) (field r 0)
    go true e = rw e ((bytes_eq-Decides t.name (field r 0)).0 e)
    go false e = rw e refl
behind_name (t ∷ u ∷ ts) r =
    let (v, more, e) = behind_some (u ∷ ts) r in
    rw e (rw e at (behind_name (u ∷ ts) r))

-- so it is where records are grouped
pub grouped_name : (rows : List (List (List ℕ))) (r : List (List ℕ))
    → IsLastName (grouped (rows ++ r ∷ [])) (field r 0)
grouped_name rows r = rw (grouped_behind rows r) (behind_name (grouped rows) r)

-- the names of some tables
abbrev names : List DecrementTable → List (List ℕ)
names tables = map (λ (t : DecrementTable). t.name) tables

-- a row more in the last table makes no name more
names-with_last_row : (ts : List DecrementTable) (row : DecrementRow)
    → names (with_last_row ts row) ≡ names ts
names-with_last_row [] row = refl
names-with_last_row (t ∷ []) row = refl
names-with_last_row (t ∷ u ∷ ts) row =
    ap (λ (ns : List (List ℕ)). t.name ∷ ns) (names-with_last_row (u ∷ ts) row)

-- the last table has one name
last_name_one : (ts : List DecrementTable) (a b : List ℕ) → IsLastName ts a → IsLastName ts b
    → a ≡ b
last_name_one [] a b h k = absurd h
last_name_one (t ∷ []) a b h k = sym h ∙ k
last_name_one (t ∷ u ∷ ts) a b h k = last_name_one (u ∷ ts) a b h k

-- the rows of the first n records
abbrev pub rows_before : List (List (List ℕ)) → ℕ → List (List (List ℕ))
rows_before all n = drop 1 (take n all)

pub rows_more : (all : List (List (List ℕ))) (n : ℕ) → 1 ≤ n → n < length all
    → rows_before all (n + 1) ≡ rows_before all n ++ record_at all n ∷ []
rows_more all n some room =
    rw (take_more all n [] room) (drop-append-le 1 (take n all) (record_at all n ∷ [])
    (omega (arith, length-take n all)))

pub rows_none : (all : List (List (List ℕ))) → rows_before all 1 ≡ []
rows_none [] = refl
rows_none (x ∷ all) = refl

-- the last table of some rows has the name of the last row
rows_name : (all : List (List (List ℕ))) (n : ℕ) → 1 ≤ n → n < length all
    → IsLastName (grouped (rows_before all (n + 1))) (field (record_at all n) 0)
rows_name all n some room =
    rw (rows_more all n some room) (grouped_name (rows_before all n) (record_at all n))

-- the first row makes the first name
pub names_first : (all : List (List (List ℕ))) → 1 < length all
    → names_before all (1 + 1) ≡ field (record_at all 1) 0 ∷ []
names_first all room =
    ap (λ (rs : List (List (List ℕ))). names (grouped rs))
    (rw (rows_none all) at (rows_more all 1 (omega arith) room))

-- a row with the name of the row before makes no name more
pub names_same : (all : List (List (List ℕ))) (n : ℕ) → 1 ≤ n → n + 1 < length all
    → field (record_at all n) 0 ≡ field (record_at all (n + 1)) 0
    → names_before all (n + 1 + 1) ≡ names_before all (n + 1)
names_same all n some room same =
    let last : IsLastName (grouped (rows_before all (n + 1))) (field (record_at all (n + 1)) 0) =
    rw same at (rows_name all n some (omega arith)) in
    ap (λ (rs : List (List (List ℕ))). names (grouped rs))
    (rows_more all (n + 1) (omega arith) room)
    ∙ ap names (grouped_last (rows_before all (n + 1)) (record_at all (n + 1)) last)
    ∙ names-with_last_row (grouped (rows_before all (n + 1))) (written_row (record_at all (n + 1)))

-- a row with another name makes one name more
pub names_new : (all : List (List (List ℕ))) (n : ℕ) → 1 ≤ n → n + 1 < length all
    → field (record_at all n) 0 ≢ field (record_at all (n + 1)) 0
    → names_before all (n + 1 + 1) ≡ names_before all (n + 1) ++ field (record_at all (n + 1)) 0 ∷
    []
names_new all n some room differ =
    let other : IsLastName (grouped (rows_before all (n + 1))) (field (record_at all (n + 1)) 0)
    → ⊥ =
    (λ l. differ (last_name_one (grouped (rows_before all (n + 1))) _ _
    (rows_name all n some (omega arith)) l)) in
    ap (λ (rs : List (List (List ℕ))). names (grouped rs))
    (rows_more all (n + 1) (omega arith) room)
    ∙ ap names (grouped_new (rows_before all (n + 1)) (record_at all (n + 1)) other)
    ∙ map-append (λ (t : DecrementTable). t.name) (grouped (rows_before all (n + 1)))
    (one_row_table (record_at all (n + 1)) ∷ [])

-- a row kept behind those of the last table
pub keeps_last : (old new : List DecrementTable) (row : DecrementRow) (fields : List (List ℕ))
    (rows : List (List (List ℕ)))
    → new ≡ with_last_row old row → row ≡ written_row fields → IsLastName old (field fields 0)
    → old ≡ grouped rows
    → new ≡ grouped (rows ++ fields ∷ [])
keeps_last old new row fields rows is written last e =
    rw (is, written, e) (sym (grouped_last rows fields (rw e at last)))

-- a row kept as a new table
pub keeps_new : (old new : List DecrementTable) (t : DecrementTable) (fields : List (List ℕ))
    (rows : List (List (List ℕ)))
    → new ≡ old ++ t ∷ [] → t ≡ one_row_table fields → (IsLastName old (field fields 0) → ⊥)
    → old ≡ grouped rows
    → new ≡ grouped (rows ++ fields ∷ [])
keeps_new old new t fields rows is one other e =
    rw (is, one, e) (sym (grouped_new rows fields (rw e at other)))

-- all rows
pub rows_all : (all : List (List (List ℕ))) (n : ℕ) → length all ≤ n
    → rows_before all n ≡ drop 1 all
rows_all all n h = ap (λ (xs : List (List (List ℕ))). drop 1 xs) (take_all n all h)

-- the table of one row that a record writes
pub table_of_one : (fields : List (List ℕ)) (name : List ℕ) (r : RowNumbers) (row : DecrementRow)
    (width : ℕ)
    → 4 ≤ width → AreRowNumbers width fields r → name ≡ field fields 0 → row ≡ written_row fields
    → record {
      name = name;
      first_age = get_or r.numbers 1 0;
      rows = row ∷ [];
    } ≡ one_row_table fields
table_of_one fields name r row width low are e written =
    rw (e, written, (are.numbers 1 (omega arith) (omega arith)).1) refl
