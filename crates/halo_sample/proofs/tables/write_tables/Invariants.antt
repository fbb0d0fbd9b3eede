-- What was written and the tables that are left make all tables.
use Rattle.std.proofs.Common.{◌≡◌, ◌++◌, ◌-◌, ◌*◌}
use Rattle.halo_sample.specs.declared.tables.TheConstants.{LAST_AGE, TABLES}
use Rattle.halo_sample.specs.Generator.{state_behind_pairs}
use Rattle.halo_sample.specs.Tables.{tables_from, tables_text}
use Rattle.halo_sample.proofs.tables.write_tables.Given as goal

abbrev pub invariant-loop-table : goal.invariant-loop-table
invariant-loop-table l = record {
  text : l.into.items ++ tables_from (TABLES - l.table) l.table l.draws
      ≡ l.fn.into.items ++ tables_text l.fn.draws;
  state : l.draws ≡ state_behind_pairs (l.table * LAST_AGE) l.fn.draws;
}
