-- The lives that a group says are alive have survivors.
use Rattle.std.proofs.Common.{◌≡◌, ℕ, ◌+◌, ◌-◌, ◌<◌, ◌≤◌, List, [], ◌∷◌, length, true, arith}
use Rattle.std.proofs.lemmas.List.Elements.{All-get_or}
use Rattle.halo_sums.specs.Masks.{has_bit}
use Rattle.halo_table.specs.DecrementTable.{DecrementRow, TableFile, empty_table, first_age_of, survivors_at, table_of, HasRow}
use Rattle.halo_table.specs.Sound.{AreSoundRows, IsSound, IsSoundTable}
use Rattle.halo_table.proofs.LookUps.{sound_row}
use Rattle.halo_model.specs.Horizon.{life_at}
use Rattle.halo_life.specs.PlainGroup.{IsGroup, PlainGroup, survivors_in}

some-rows : (causes : ℕ) (rows : List DecrementRow) → AreSoundRows causes rows → 1 ≤ length rows
some-rows causes [] h = absurd h
some-rows causes (row ∷ rows) h = omega arith

pub row-survives : (file : TableFile)
    → IsSound file → (table age : ℕ) → HasRow file table age → 0 < survivors_at file table age
row-survives file sound table age row =
    let t = All-get_or (IsSoundTable (length file.causes)) file.tables table empty_table row.table_in sound.tables in
    let some = some-rows (length file.causes) (table_of file table).rows t.rows in
    (sound_row (length file.causes) (table_of file table).rows
    (age - first_age_of file table) t.rows (omega (arith, some, row.from_first, row.to_last))).some

pub living-survive : (n : ℕ) (g : PlainGroup)
    → IsGroup n g → (i : ℕ) → i < n → has_bit g.alive i ≡ true → 0 < survivors_in g g.start i
living-survive n g is i below alive = row-survives g.file is.sound
    (life_at g.lives i).table ((life_at g.lives i).age + g.start) (is.alive_rows i below alive)
