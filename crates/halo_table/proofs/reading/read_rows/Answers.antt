use Rattle.std.proofs.Common.{◌≡◌, ◌∙◌, ◌+◌, ◌-◌, ◌∷◌, List, ap, arith, map, refl, sym, ℕ}
use Rattle.csv.specs.Records.{fields_of}
use Rattle.halo_table.specs.DecrementTable.{DecrementTable}
use Rattle.halo_table.specs.Grouping.{grouped}
use Rattle.halo_table.specs.Seen.{seen_table}
use Rattle.halo_table.specs.declared.table.Table.{Table}
use Rattle.halo_table.proofs.Groups.{rows_all, rows_before, rows_more}
use Rattle.halo_table.proofs.Walk.{between_is, closed_fault, finish, leaving_fits, next_is, not_first, on_ok, open_is, step_fault, step_fine, tested_closed}
use Rattle.halo_table.proofs.reading.read_rows.Goals as goal

pub returns-then-is_left_open-clause-fault : goal.returns-then-is_left_open-clause-fault
returns-then-is_left_open-clause-fault c =
    let all = fields_of c.args.header ∷ c.args.source.now in
    let last = fields_of c.rows.last in
    let row = fields_of c.next.new.row in
    let inv = c.rows.invariant in
    let k =
    between_is all c.rows.source c.next.new.self c.rows.count c.len-width.result c.rows.before
    last row c.in-Ok.found inv.seen inv.left c.in-Ok.ensures.more
    (λ e. (c.in-Ok.ensures.end e).0) inv.last inv.wide inv.before in
    rw c.fault_at.ensures (closed_fault all c.rows.count inv.seen inv.within
    ((open_is all c.rows.count c.rows.before last c.in-Ok.found row k).0
    (c.if-is_left_open.ensures.0 refl)))

pub returns-then-not-found-clause-fine : goal.returns-then-not-found-clause-fine
returns-then-not-found-clause-fine c =
    let all = fields_of c.args.header ∷ c.args.source.now in
    let last = fields_of c.rows.last in
    let row = fields_of c.next.new.row in
    let inv = c.rows.invariant in
    let k =
    between_is all c.rows.source c.next.new.self c.rows.count c.len-width.result c.rows.before
    last row c.in-Ok.found inv.seen inv.left c.in-Ok.ensures.more
    (λ e. (c.in-Ok.ensures.end e).0) inv.last inv.wide inv.before in
    let closed =
    tested_closed all c.rows.count c.rows.before last c.in-Ok.found row inv.seen k
    c.if-is_left_open.ensures in (
      finish all c.rows.count k.some inv.within (k.none c.if-not-found.true) closed,
      inv.tables
          ∙ ap (λ (rows : List (List (List ℕ))). grouped rows)
          (rows_all all c.rows.count (k.none c.if-not-found.true)),
    )

pub read_step-requires-clause-fits : goal.read_step-requires-clause-fits
read_step-requires-clause-fits c = λ e.
    let all = fields_of c.args.header ∷ c.args.source.now in
    let inv = c.rows.invariant in
    let more = not_first c.rows.count inv.seen.some e in
    rw (inv.last, (inv.before more).leaving) (leaving_fits all c.rows.count inv.seen more)

pub returns-in-Err-clause-fault : goal.returns-in-Err-clause-fault
returns-in-Err-clause-fault c =
    let all = fields_of c.args.header ∷ c.args.source.now in
    let last = fields_of c.rows.last in
    let row = fields_of c.next.new.row in
    let inv = c.rows.invariant in
    let k =
    between_is all c.rows.source c.next.new.self c.rows.count c.len-width.result c.rows.before
    last row c.in-Ok.found inv.seen inv.left c.in-Ok.ensures.more
    (λ e. (c.in-Ok.ensures.end e).0) inv.last inv.wide inv.before in
    let closed =
    tested_closed all c.rows.count c.rows.before last c.in-Ok.found row inv.seen k
    c.if-is_left_open.ensures in
    let (room, here) = k.next c.if-not-found.false in
    rw c.fault_at-in-Err.ensures (step_fault all c.rows.count c.in-Err.kind c.len-width.result _
    last row k.some room closed (ap (λ (ts : List DecrementTable). map
    (λ (t : DecrementTable). t.name) ts)
    (ap (λ (ts : List Table). map seen_table ts) c.deref.ensures.value ∙ inv.tables))
    inv.width inv.last here c.in-Err.ensures)

pub rows-preserved : goal.rows-preserved
rows-preserved c =
    let all = fields_of c.args.header ∷ c.args.source.now in
    let last = fields_of c.rows.last in
    let row = fields_of c.next.new.row in
    let inv = c.rows.invariant in
    let k =
    between_is all c.rows.source c.next.new.self c.rows.count c.len-width.result c.rows.before
    last row c.in-Ok.found inv.seen inv.left c.in-Ok.ensures.more
    (λ e. (c.in-Ok.ensures.end e).0) inv.last inv.wide inv.before in
    let closed =
    tested_closed all c.rows.count c.rows.before last c.in-Ok.found row inv.seen k
    c.if-is_left_open.ensures in
    let next =
    next_is all c.next.new.self row c.rows.count
    (inv.left ∙ c.in-Ok.ensures.more c.if-not-found.false) in
    let back : c.rows.count + 1 - 1 ≡ c.rows.count = omega arith in
    let kept = on_ok c.keep_row.result (sym c.if-is_err.ensures.value) c.keep_row.ensures in
    record {
      left = next.2;
      within = omega (arith, next.0);
      few = inv.few;
      last = rw (c.swap.ensures.y_after, back) (sym next.1);
      wide = inv.wide;
      narrow = inv.narrow;
      width = inv.width;
      seen =
          step_fine all c.rows.count c.len-width.result _ last row k.some closed
          (ap (λ (ts : List DecrementTable). map (λ (t : DecrementTable). t.name) ts)
          (ap (λ (ts : List Table). map seen_table ts) c.deref.ensures.value ∙ inv.tables))
          inv.width inv.last next.1 c.in-Ok-read_step.ensures.0;
      before = (λ _. rw (back, next.1) c.in-Ok-read_step.ensures.1);
      tables =
          kept (rows_before all c.rows.count) inv.tables
          ∙ ap (λ (rows : List (List (List ℕ))). grouped rows)
          (rw next.1 at (sym (rows_more all c.rows.count k.some next.0)));
    }
