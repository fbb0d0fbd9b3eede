use Rattle.std.proofs.Common.{◌≡◌, ◌+◌, ◌++◌, arith}
use Rattle.halo_table.specs.DecrementTable.{last_age_of}
use Rattle.halo_report.specs.ColumnsText.{age_lines}
use Rattle.halo_report.proofs.LineByLine.{next-line}
use Rattle.halo_report.proofs.columns.columns_text.Goals as goal

pub write_age-requires-clause-age : goal.write_age-requires-clause-age
write_age-requires-clause-age c =
    c.requires.columns.ages c.loop-age.age c.loop-age.invariant.from
    (omega (arith, c.loop-age-test.true, c.last_age-end.ensures.age))

pub write_age-requires-clause-causes : goal.write_age-requires-clause-causes
write_age-requires-clause-causes c =
    c.requires.columns.causes c.loop-age.age c.loop-age.invariant.from
    (omega (arith, c.loop-age-test.true, c.last_age-end.ensures.age))

pub loop-age-preserved : goal.loop-age-preserved
loop-age-preserved c =
    let lines = age_lines c.args.tables.now c.args.columns.now in
    let written : c.write_age.new.into.items ≡ c.loop-age.text.items ++ lines c.loop-age.age
    = c.in_ok-write_age.ensures in
    record {
      from = omega (arith, c.loop-age.invariant.from);
      text = rw written
          (next-line lines c.loop-age.age (last_age_of c.args.tables.now c.args.table + 1) c.loop-age.text.items _
          c.loop-age.invariant.text (omega (arith, c.loop-age-test.true, c.last_age-end.ensures.age)));
    }
