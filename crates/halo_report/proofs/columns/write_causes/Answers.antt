use Rattle.std.proofs.Common.{◌≡◌, ◌++◌, arith, length}
use Rattle.halo_report.specs.ColumnsText.{cause_line}
use Rattle.halo_report.proofs.LineByLine.{next-line}
use Rattle.halo_report.proofs.columns.write_causes.Goals as goal

pub loop-cause-preserved : goal.loop-cause-preserved
loop-cause-preserved c =
    let line = cause_line c.args.tables.now c.args.columns.now c.args.age in
    let written : c.write_cause_line.new.into.items ≡ c.loop-cause.into.items ++ line c.loop-cause.cause
    = c.in_ok-write_cause_line.ensures in
    rw written (next-line line c.loop-cause.cause (length c.args.tables.now.causes) c.loop-cause.into.items _
    c.loop-cause.invariant (omega (arith, c.loop-cause-test.true, c.causes-cause-end.ensures.all)))
