-- What was written and the lines that are left make all lines.
use Rattle.std.proofs.Common.{◌≡◌, ◌++◌, ◌+◌, ◌-◌, ◌≤◌}
use Rattle.halo_table.specs.DecrementTable.{first_age_of, last_age_of}
use Rattle.halo_report.specs.ColumnsText.{age_lines, columns_text, lines_from}
use Rattle.halo_report.proofs.columns.columns_text.Given as goal

abbrev pub invariant-loop-age : goal.invariant-loop-age
invariant-loop-age l = record {
  from : first_age_of l.tables l.table ≤ l.age;
  text : l.text.items ++ lines_from (age_lines l.tables l.columns) l.age (last_age_of l.tables l.table + 1 - l.age)
      ≡ columns_text l.tables l.table l.columns;
}
