-- A life in sound tables keeps the rule of a decrement table.
use Rattle.std.proofs.Common.{◌≡◌, ℕ, zero, suc, ◌+◌, ◌-◌, ◌<◌, ◌≤◌, List, [], ◌∷◌, arith, ap, sym, ◌∙◌, get_or, length, refl, ⊎_elim}
use Rattle.std.specs.Prelude.{All, sum}
use Rattle.std.proofs.lemmas.Bool.{cases_lt}
use Rattle.std.proofs.lemmas.List.{get_or_past}
use Rattle.std.proofs.lemmas.List.Elements.{All-get_or, All-head, All-tail}
use Rattle.std.proofs.lemmas.List.Sums.{sum_by-cons}
use Rattle.halo_sums.specs.Sums.{numbers_from, sum_over}
use Rattle.halo_sums.proofs.Numbers.{sum_over-numbers_next}
use Rattle.halo_sums.proofs.Sums.{sum_over-none}
use Rattle.halo_table.specs.DecrementTable.{DecrementRow, DecrementTable, TableFile, empty_row, empty_table, first_age_of, table_of, HasRow}
use Rattle.halo_table.specs.Sound.{AreSoundRows, IsSound, IsSoundTable}
use Rattle.halo_table.specs.declared.lives.Life.{Life}
use Rattle.halo_model.specs.Life.{AreLives, IsLife, leavers_in}
use Rattle.halo_model.specs.FromTables.{life_of, lives_of}

sum_over-get_or : (ns : List ℕ) → sum_over (numbers_from 0 (length ns)) (λ j. get_or ns j 0) ≡ sum ns
sum_over-get_or [] = refl
sum_over-get_or (n ∷ ns) =
    ap (λ m. n + m) (sum_over-numbers_next (length ns) 0 (λ j. get_or (n ∷ ns) j 0) ∙ sum_over-get_or ns)
    ∙ sym (sum_by-cons (λ m. m) n ns)

abbrev row_at : List DecrementRow → ℕ → DecrementRow
row_at rows i = get_or rows i empty_row

-- each row of a sound table has a leaver number for each cause, and its leavers are missing in the next row
record Falls (causes : ℕ) (rows : List DecrementRow) (i : ℕ) : Type 0 where
  by_cause : length (row_at rows i).leavers ≡ causes
  next : (row_at rows i).survivors ≡ sum (row_at rows i).leavers + (row_at rows (suc i)).survivors

rows-fall : (causes : ℕ) (rows : List DecrementRow) → AreSoundRows causes rows → (i : ℕ) → i < length rows
    → Falls causes rows i
rows-fall causes [] h i within = absurd h
rows-fall causes (row ∷ []) h zero within = record { by_cause = h.0.by_cause; next = omega (arith, h.1) }
rows-fall causes (row ∷ []) h (suc i) within = absurd (omega arith)
rows-fall causes (row ∷ next ∷ rest) h zero within = record { by_cause = h.0.by_cause; next = omega (arith, h.1) }
rows-fall causes (row ∷ next ∷ rest) h (suc i) within =
    let f = rows-fall causes (next ∷ rest) h.2 i (omega arith) in record { by_cause = f.by_cause; next = f.next }

-- a sound table has a row
pub some-rows : (causes : ℕ) (rows : List DecrementRow) → AreSoundRows causes rows → 0 < length rows
some-rows causes [] h = absurd h
some-rows causes (row ∷ rest) h = omega arith

pub life_of-IsLife : (file : TableFile) → IsSound file → (table age : ℕ) → table < length file.tables
    → first_age_of file table ≤ age → IsLife (life_of file table age)
life_of-IsLife file sound table age within from = record { falls = falls; ends = ends }
  where
    t : DecrementTable
    t = table_of file table

    is_sound : IsSoundTable (length file.causes) t
    is_sound = All-get_or (IsSoundTable (length file.causes)) file.tables table empty_table within sound.tables

    some : 0 < length t.rows
    some = some-rows (length file.causes) t.rows is_sound.rows

    past-rows : (k : ℕ) → (life_of file table age).years_left ≤ k → row_at t.rows (age + k - t.first_age) ≡ empty_row
    past-rows k past = get_or_past t.rows (age + k - t.first_age) empty_row (omega (arith, some, past))

    ends : (k : ℕ) → (life_of file table age).years_left ≤ k → (life_of file table age).survivors k ≡ 0
    ends k past = rw (past-rows k past) refl

    -- in the rows of the table, and after its last one
    falls : (k : ℕ)
        → (life_of file table age).survivors k ≡ leavers_in (life_of file table age) k +
        (life_of file table age).survivors (suc k)
    falls k = ⊎_elim
        (λ (before : k < (life_of file table age).years_left).
        let i : ℕ = age + k - t.first_age in
        let f = rows-fall (length file.causes) t.rows is_sound.rows i (omega (arith, some, before)) in
        let next : age + suc k - t.first_age ≡ suc i = omega arith in
        rw (next, ← f.by_cause, sum_over-get_or (row_at t.rows i).leavers) f.next)
        (λ (past : (life_of file table age).years_left ≤ k).
        let none : leavers_in (life_of file table age) k ≡ 0 =
        ap (λ row. sum_over (numbers_from 0 (length file.causes)) (λ j. get_or row.leavers j 0)) (past-rows k past)
        ∙ sum_over-none (numbers_from 0 (length file.causes)) in
        omega (arith, none, ends k past, ends (suc k) (omega arith)))
        (cases_lt k (life_of file table age).years_left)

-- the lives of a contract on sound tables keep it too
pub lives_of-AreLives : (file : TableFile) → IsSound file → (lives : List Life)
    → All (λ life. HasRow file life.table life.age) lives → AreLives (lives_of file lives)
lives_of-AreLives file sound [] have_rows = tt
lives_of-AreLives file sound (life ∷ lives) have_rows =
    let row = All-head (λ life. HasRow file life.table life.age) life lives have_rows in (
      life_of-IsLife file sound life.table life.age row.table_in row.from_first,
      lives_of-AreLives file sound lives
          (All-tail (λ life. HasRow file life.table life.age) life lives have_rows),
    )
