-- What is looked up in sound tables.
use Rattle.std.proofs.Common.{◌≡◌, ◌↔◌, ◌∙◌, ◌++◌, ℕ, zero, suc, ◌+◌, ◌<◌, ◌≤◌, Global, List, [], ◌∷◌, Vec, ap, arith, get_or, inl, inr, length, map, refl, set, sum, sym}
use Rattle.std.proofs.lemmas.Bool.{cases_order}
use Rattle.std.proofs.lemmas.List.Sums.{sum_by-cons}
use Rattle.std.proofs.lemmas.List.{get_or-map, length-map, map-append}
use Rattle.halo_table.specs.DecrementTable.{DecrementRow, DecrementTable, empty_row, empty_table}
use Rattle.halo_table.specs.Reading.{IsLastName, with_last_row}
use Rattle.halo_table.specs.Seen.{seen_row, seen_table}
use Rattle.halo_table.specs.Sound.{AreApart, AreSoundRows, IsSoundRow}
use Rattle.halo_table.specs.declared.table.Row.{Row}
use Rattle.halo_table.specs.declared.table.Table.{Table}

-- each row is sound
pub sound_row : (causes : ℕ) (rows : List DecrementRow) (k : ℕ) → AreSoundRows causes rows
    → k < length rows → IsSoundRow causes (get_or rows k empty_row)
sound_row causes [] k h lt = absurd h
sound_row causes (row ∷ []) zero h lt = h.0
sound_row causes (row ∷ []) (suc k) h lt = absurd (omega arith)
sound_row causes (row ∷ next ∷ rest) zero h lt = h.0
sound_row causes (row ∷ next ∷ rest) (suc k) h lt =
    sound_row causes (next ∷ rest) k h.2 (omega arith)

-- the leavers by one cause are among all leavers
pub leaver_in_sum : (leavers : List ℕ) (cause : ℕ) → get_or leavers cause 0 ≤ sum leavers
leaver_in_sum [] cause = omega arith
leaver_in_sum (n ∷ rest) zero = omega (arith, sum_by-cons (λ m. m) n rest)
leaver_in_sum (n ∷ rest) (suc cause) =
    omega (arith, sum_by-cons (λ m. m) n rest, leaver_in_sum rest cause)

-- survivors at a place of the rows, 0 past the last
abbrev pub survivors_in : List DecrementRow → ℕ → ℕ
survivors_in rows k = (get_or rows k empty_row).survivors

-- there are no more survivors than in the first row
falling_from : (causes : ℕ) (rows : List DecrementRow) (k : ℕ) → AreSoundRows causes rows
    → survivors_in rows k ≤ survivors_in rows 0
falling_from causes [] k h = absurd h
falling_from causes (row ∷ []) zero h = omega arith
falling_from causes (row ∷ []) (suc k) h = omega arith
falling_from causes (row ∷ next ∷ rest) zero h = omega arith
falling_from causes (row ∷ next ∷ rest) (suc k) h =
    omega (arith, falling_from causes (next ∷ rest) k h.2, h.1)

-- survivors fall
pub falling : (causes : ℕ) (rows : List DecrementRow) (j k : ℕ) → AreSoundRows causes rows → j ≤ k
    → survivors_in rows k ≤ survivors_in rows j
falling causes [] j k h le = absurd h
falling causes (row ∷ rest) zero k h le = falling_from causes (row ∷ rest) k h
falling causes (row ∷ []) (suc j) zero h le = absurd (omega arith)
falling causes (row ∷ []) (suc j) (suc k) h le = omega arith
falling causes (row ∷ next ∷ rest) (suc j) zero h le = absurd (omega arith)
falling causes (row ∷ next ∷ rest) (suc j) (suc k) h le =
    falling causes (next ∷ rest) j k h.2 (omega arith)

-- the table at a place, as it is seen
pub seen_at : (tables : List Table) (i : ℕ) (t : Table) → i < length tables → t ≡ get_or tables i t
    → get_or (map seen_table tables) i empty_table ≡ seen_table t
seen_at tables i t h e = get_or-map seen_table tables i t empty_table h ∙ ap seen_table (sym e)

-- its name in the list of names
pub name_at : (tables : List Table) (i : ℕ) (t : Table) (d : List ℕ) → i < length tables
    → t ≡ get_or tables i t
    → get_or (map (λ (t : DecrementTable). t.name) (map seen_table tables)) i d ≡ t.name
name_at tables i t d h e =
    get_or-map (λ (t : DecrementTable). t.name) (map seen_table tables) i empty_table d
    (rw (length-map tables seen_table) h)
    ∙ ap (λ (t : DecrementTable). t.name) (seen_at tables i t h e)

-- the row at a place, as it is seen
pub seen_row_at : (rows : List Row) (i : ℕ) (r : Row) → i < length rows → r ≡ get_or rows i r
    → get_or (map seen_row rows) i empty_row ≡ seen_row r
seen_row_at rows i r h e = get_or-map seen_row rows i r empty_row h ∙ ap seen_row (sym e)

-- the last table is the one at the last place
pub last_is : (tables : List Table) (n : ℕ) (t d : Table) (name : List ℕ) → n + 1 ≡ length tables
    → t ≡ get_or tables n d → IsLastName (map seen_table tables) name ↔ (t.name ≡ name)
last_is [] n t d name h e = absurd (omega arith)
last_is (x ∷ []) zero t d name h e = rw e ((λ y. y), (λ y. y))
last_is (x ∷ []) (suc n) t d name h e = absurd (omega arith)
last_is (x ∷ y ∷ rest) zero t d name h e = absurd (omega arith)
last_is (x ∷ y ∷ rest) (suc n) t d name h e = last_is (y ∷ rest) n t d name (omega arith) e

-- a row more behind those of the last table
pub with_row_seen : (tables : List Table) (n : ℕ) (t d : Table) (row : Row) (rows : Vec Row Global)
    → n + 1 ≡ length tables → t ≡ get_or tables n d → rows.items ≡ t.rows.items ++ row ∷ []
    → map seen_table (set tables n (record {
      name = t.name;
      first_age = t.first_age;
      rows = rows;
    })) ≡ with_last_row (map seen_table tables) (seen_row row)
with_row_seen [] n t d row rows h e more = absurd (omega arith)
with_row_seen (x ∷ []) zero t d row rows h e more =
    rw (more, e, map-append seen_row x.rows.items (row ∷ [])) refl
with_row_seen (x ∷ []) (suc n) t d row rows h e more = absurd (omega arith)
with_row_seen (x ∷ y ∷ rest) zero t d row rows h e more = absurd (omega arith)
with_row_seen (x ∷ y ∷ rest) (suc n) t d row rows h e more =
    ap (λ (ts : List DecrementTable). seen_table x ∷ ts)
    (with_row_seen (y ∷ rest) n t d row rows (omega arith) e more)

-- a row of a table in memory, in the table as it is seen
pub row_known : (t : Table) (d : DecrementTable) (r : Row) (k : ℕ) → seen_table t ≡ d
    → k < length t.rows.items → r ≡ get_or t.rows.items k r
    → (k < length d.rows) × (get_or d.rows k empty_row ≡ seen_row r)
row_known t d r k e lt at =
    rw (← e) (rw (length-map t.rows.items seen_row) lt, seen_row_at t.rows.items k r lt at)

-- the name of the table at a place
pub seen_name : (tables : List Table) (i : ℕ) (t : Table) → i < length tables
    → t ≡ get_or tables i t → (get_or (map seen_table tables) i empty_table).name ≡ t.name
seen_name tables i t h e = ap (λ (t : DecrementTable). t.name) (seen_at tables i t h e)

-- tables of one name stand at one place, where no two names are equal
pub same_place : (tables : List DecrementTable) (j k : ℕ)
    → AreApart (map (λ (t : DecrementTable). t.name) tables) → j < length tables → k < length tables
    → (get_or tables j empty_table).name ≡ (get_or tables k empty_table).name → k ≡ j
same_place tables j k apart lt kt e =
    let count = length-map tables (λ (t : DecrementTable). t.name) in
    let at : (i : ℕ) → i < length tables
    → get_or (map (λ (t : DecrementTable). t.name) tables) i []
    ≡ (get_or tables i empty_table).name =
    (λ i room. get_or-map (λ (t : DecrementTable). t.name) tables i empty_table [] room) in
    elim (cases_order k j) [
      | inl same ↦ same
      | inr h ↦
          elim h [
            | inl less ↦ absurd (apart k j less (omega arith)
                (at k kt ∙ sym e ∙ sym (at j lt)))
            | inr more ↦ absurd
                (apart j k more (omega arith) (at j lt ∙ e ∙ sym (at k kt)))
          ]
    ]
