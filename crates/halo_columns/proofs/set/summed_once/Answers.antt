use Rattle.halo_columns.specs.Entries.{columns_of}
use Rattle.halo_columns.proofs.SummedColumns.{summed-once}
use Rattle.halo_columns.proofs.set.summed_once.Goals as goal

pub returns : goal.returns
returns c p q powers =
    summed-once (columns_of p q c.args.tables.now c.args.table) c.args.cause c.in_ok-discounted.discounted.items
    c.in_ok-sums.sums.items c.in_ok-discounted.ensures.few (c.in_ok-discounted.ensures.entries p q powers)
    (rw c.deref.ensures.value at c.in_ok-sums.ensures)
