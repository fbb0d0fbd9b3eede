-- What was written and the lines that are left make all lines.
use Rattle.std.proofs.Common.{◌≡◌, ◌++◌, ◌-◌, length}
use Rattle.halo_report.specs.ColumnsText.{cause_line, lines_from}
use Rattle.halo_report.proofs.columns.write_causes.Given as goal

abbrev pub invariant-loop-cause : goal.invariant-loop-cause
invariant-loop-cause l =
    l.into.items ++ lines_from (cause_line l.tables l.columns l.age) l.cause (length l.tables.causes - l.cause)
    ≡ l.fn.into.items ++ lines_from (cause_line l.tables l.columns l.age) 0 (length l.tables.causes)
