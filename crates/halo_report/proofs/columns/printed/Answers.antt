use Rattle.std.proofs.Common.{arith}
use Rattle.std.proofs.lemmas.Int.{ints}
use Rattle.halo_lines.proofs.PrintedEnds.{printed-fit}
use Rattle.halo_report.proofs.PrintedEnds.{nano-is}
use Rattle.halo_report.proofs.columns.printed.Goals as goal

pub returns-clause-ends : goal.returns-clause-ends
returns-clause-ends c = nano-is c.args.entry c.to_nano.result c.to_nano.ensures.low c.to_nano.ensures.high

pub returns-clause-size : goal.returns-clause-size
returns-clause-size c =
    printed-fit c.args.entry c.to_nano.result c.lo.ensures.order
    (record { low = omega (arith, ints, c.requires.low); high = omega (arith, ints, c.requires.high) })
    c.to_nano.ensures.low c.to_nano.ensures.high
