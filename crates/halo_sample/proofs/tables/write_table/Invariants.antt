-- What was written and the rows that are left make the whole table.
use Rattle.std.proofs.Common.{◌≡◌, ◌++◌, ◌-◌, ◌≤◌}
use Rattle.std.specs.Prelude.{flat_map}
use Rattle.halo_sample.specs.declared.tables.TheConstants.{LAST_AGE, RADIX}
use Rattle.halo_sample.specs.Generator.{state_behind_pairs}
use Rattle.halo_sample.specs.Tables.{row_line, rows_from, table_text}
use Rattle.halo_sample.proofs.tables.write_table.Given as goal

abbrev pub invariant-loop-age : goal.invariant-loop-age
invariant-loop-age l = record {
  text : l.into.items ++ flat_map (row_line l.table) (rows_from (LAST_AGE - l.age) l.age l.alive l.draws)
      ≡ l.fn.into.items ++ table_text l.table l.fn.draws;
  state : l.draws ≡ state_behind_pairs l.age l.fn.draws;
  alive : l.alive ≤ RADIX;
}
