use Rattle.std.proofs.Common.{◌≡◌, ◌≤◌, ◌-◌, ap, arith, length, subst, ℕ}
use Rattle.halo_table.specs.DecrementTable.{DecrementRow, DecrementTable, first_age_of, survivors_at, table_of}
use Rattle.halo_table.proofs.LookUps.{falling, row_known, sound_row}
use Rattle.halo_table.proofs.held.Tables.survivors.Goals as goal

pub returns-in-Some-clause-small : goal.returns-in-Some-clause-small
returns-in-Some-clause-small c =
    let h = rw c.deref.ensures.value at c.in-Some.ensures.lookup in
    let (lt, at) =
    row_known c.table-table.result.now (table_of c.args.self.now c.args.table) c.in-Some.row.now
    c.from.result c.table-table.ensures.table h.3.0 h.1 in
    (rw at at (sound_row (length c.args.self.now.causes)
    (table_of c.args.self.now c.args.table).rows c.from.result c.table-table.ensures.sound.rows
    lt)).small

pub returns-in-Some-clause-some : goal.returns-in-Some-clause-some
returns-in-Some-clause-some c =
    let h = rw c.deref.ensures.value at c.in-Some.ensures.lookup in
    let (lt, at) =
    row_known c.table-table.result.now (table_of c.args.self.now c.args.table) c.in-Some.row.now
    c.from.result c.table-table.ensures.table h.3.0 h.1 in
    λ _. (rw at at (sound_row (length c.args.self.now.causes)
    (table_of c.args.self.now c.args.table).rows c.from.result c.table-table.ensures.sound.rows
    lt)).some

pub returns-in-Some-clause-falling : goal.returns-in-Some-clause-falling
returns-in-Some-clause-falling c = λ a low high.
    let h = rw c.deref.ensures.value at c.in-Some.ensures.lookup in
    let (lt, at) =
    row_known c.table-table.result.now (table_of c.args.self.now c.args.table) c.in-Some.row.now
    c.from.result c.table-table.ensures.table h.3.0 h.1 in
    let age : c.table-table.result.now.first_age ≡ first_age_of c.args.self.now c.args.table =
    ap (λ (d : DecrementTable). d.first_age) c.table-table.ensures.table in
    let fall =
    falling (length c.args.self.now.causes) (table_of c.args.self.now c.args.table).rows
    (a - first_age_of c.args.self.now c.args.table) c.from.result
    c.table-table.ensures.sound.rows (omega arith) in
    let P : ℕ → Type 0 = λ n. n ≤ survivors_at c.args.self.now c.args.table a in
    subst P (ap (λ (r : DecrementRow). r.survivors) at) fall
