use Rattle.std.proofs.Common.{◌≡◌, ◌≤◌, arith, get_or, length, sum}
use Rattle.halo_table.specs.DecrementTable.{table_of}
use Rattle.halo_table.proofs.LookUps.{leaver_in_sum, row_known, sound_row}
use Rattle.halo_table.proofs.held.Tables.leavers.Goals as goal

pub bounds-deref-from : goal.bounds-deref-from
bounds-deref-from c =
    let h = rw c.deref.ensures.value at c.in-Some.ensures.lookup in
    let (lt, at) =
    row_known c.table-table.result.now (table_of c.args.self.now c.args.table) c.in-Some.row.now
    c.from.result c.table-table.ensures.table h.3.0 h.1 in
    let sound =
    rw at at (sound_row (length c.args.self.now.causes)
    (table_of c.args.self.now c.args.table).rows c.from.result
    c.table-table.ensures.sound.rows lt) in
    let same : c.deref-2.result.now ≡ c.in-Some.row.now.leavers.items = c.deref-2.ensures.0 in
    let all : length c.deref-2.result.now ≡ length c.args.self.now.causes =
    rw same sound.by_cause in
    omega (arith, all, c.requires.known, c.from-2.ensures)

pub returns-clause-small : goal.returns-clause-small
returns-clause-small c =
    let h = rw c.deref.ensures.value at c.in-Some.ensures.lookup in
    let (lt, at) =
    row_known c.table-table.result.now (table_of c.args.self.now c.args.table) c.in-Some.row.now
    c.from.result c.table-table.ensures.table h.3.0 h.1 in
    let sound =
    rw at at (sound_row (length c.args.self.now.causes)
    (table_of c.args.self.now c.args.table).rows c.from.result
    c.table-table.ensures.sound.rows lt) in
    let same : c.deref-2.result.now ≡ c.in-Some.row.now.leavers.items = c.deref-2.ensures.0 in
    let most : get_or c.deref-2.result.now c.from-2.result 0 ≤ sum c.in-Some.row.now.leavers.items =
    rw same (leaver_in_sum c.in-Some.row.now.leavers.items c.from-2.result) in
    omega (arith, most, sound.fits, sound.small)
