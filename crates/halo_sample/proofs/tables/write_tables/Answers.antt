use Rattle.std.proofs.Common.{◌≡◌, ◌+◌, ◌*◌, append_assoc, ap, arith, sym, ◌∙◌}
use Rattle.halo_sample.specs.declared.tables.TheConstants.{LAST_AGE, TABLES}
use Rattle.halo_sample.specs.Generator.{state_behind_pairs}
use Rattle.halo_sample.specs.Tables.{header, tables_from}
use Rattle.halo_sample.proofs.Draws.{behind-more, behind-none}
use Rattle.halo_sample.proofs.OneByOne.{last-table, next-table}
use Rattle.halo_sample.proofs.tables.write_tables.Goals as goal

pub loop-table-init : goal.loop-table-init
loop-table-init c = record {
  text = rw c.in_ok-write_bytes.ensures
      (append_assoc c.args.into.now.items header (tables_from TABLES 0 c.args.draws.now));
  state = sym (behind-none c.args.draws.now);
}

pub loop-table-preserved : goal.loop-table-preserved
loop-table-preserved c =
    let table = c.loop-table.table in
    let more : table * LAST_AGE + LAST_AGE ≡ (table + 1) * LAST_AGE = omega arith in
    record {
      text = rw (c.in_ok-write_table.ensures.text, c.in_ok-write_table.ensures.state)
          (next-table table TABLES c.loop-table.draws c.loop-table.into.items _
          c.loop-table-test.true c.loop-table.invariant.text);
      state = c.in_ok-write_table.ensures.state ∙ ap (state_behind_pairs LAST_AGE) c.loop-table.invariant.state
          ∙ behind-more (table * LAST_AGE) LAST_AGE c.args.draws.now
          ∙ ap (λ n. state_behind_pairs n c.args.draws.now) more;
    }

pub returns-clause-text : goal.returns-clause-text
returns-clause-text c =
    last-table c.loop-table.table TABLES c.loop-table.draws c.loop-table.into.items _
    (omega (arith, c.loop-table-test.false)) c.loop-table.invariant.text
