use Rattle.std.proofs.Common.{pos, arith}
use Rattle.halo_num.proofs.CountMultiples.{signed-count}
use Rattle.halo_columns.proofs.Multiples.{times-within}
use Rattle.halo_columns.proofs.entry.times.Goals as goal

pub returns-clause-encloses : goal.returns-clause-encloses
returns-clause-encloses c n d enclosed =
    rw (signed-count c.args.count (omega (arith, c.requires.small))) at (c.scale.ensures.encloses (pos n) d enclosed)

pub returns-clause-within : goal.returns-clause-within
returns-clause-within c =
    let same = signed-count c.args.count (omega (arith, c.requires.small)) in
    times-within c.args.discount c.scale.result c.args.count c.requires.small c.lo.ensures.order c.requires.part
    (rw same at c.scale.ensures.lo) (rw same at c.scale.ensures.hi)
