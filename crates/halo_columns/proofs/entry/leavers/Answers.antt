use Rattle.halo_columns.proofs.Discounted.{leavers-are}
use Rattle.halo_columns.proofs.entry.leavers.Goals as goal

pub returns-clause-count : goal.returns-clause-count
returns-clause-count c =
    rw (c.survivors.ensures.count, c.survivors-2.ensures.count)
    (leavers-are c.args.tables.now c.survivors.ensures.sound c.args.table c.args.age c.requires)
