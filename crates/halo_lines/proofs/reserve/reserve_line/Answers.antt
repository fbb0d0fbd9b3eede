use Rattle.halo_lines.proofs.PrintedEnds.{printed-fit}
use Rattle.halo_lines.proofs.ReserveLines.{reserve-within, with-premium, without-premium}
use Rattle.halo_lines.proofs.reserve.reserve_line.Goals as goal

pub returns-clause-with : goal.returns-clause-with
returns-clause-with g c =
    let printed = c.to_nano.ensures in
    with-premium c.args.premium c.args.later c.args.due c.reserve-reserve.result c.to_nano.result
    c.reserve-reserve.ensures.difference
    (record { encloses = printed.encloses; narrow = printed.narrow })

pub returns-clause-without : goal.returns-clause-without
returns-clause-without g c =
    let printed = c.to_nano.ensures in
    without-premium c.args.premium c.args.later c.reserve-reserve.result c.to_nano.result
    c.reserve-reserve.ensures.without
    (record { encloses = printed.encloses; narrow = printed.narrow })

pub returns-clause-printable : goal.returns-clause-printable
returns-clause-printable g c within =
    let reserve = c.reserve-reserve.result in
    let printed = c.to_nano.ensures in
    printed-fit reserve c.to_nano.result c.lo.ensures.order
    (reserve-within c.args.premium c.args.later reserve within c.reserve-reserve.ensures.without
    c.reserve-reserve.ensures.within) printed.low printed.high
