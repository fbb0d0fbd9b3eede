use Rattle.halo_columns.specs.declared.entry.TheConstants.{GREATEST_DISCOUNTED}
use Rattle.halo_columns.specs.Entries.{columns_of}
use Rattle.halo_columns.proofs.Sums.{sums-sized}
use Rattle.halo_columns.proofs.SummedColumns.{summed-twice}
use Rattle.halo_columns.proofs.set.summed_twice.Goals as goal

pub running_sums-requires-2-clause-sized : goal.running_sums-requires-2-clause-sized
running_sums-requires-2-clause-sized c =
    let column = c.in_ok-discounted.ensures in
    rw c.deref-2.ensures.value
    (sums-sized GREATEST_DISCOUNTED c.in_ok-discounted.discounted.items c.in_ok-sums.sums.items column.few column.sized
    (rw c.deref.ensures.value at c.in_ok-sums.ensures))

pub returns : goal.returns
returns c p q powers =
    let column = c.in_ok-discounted.ensures in
    summed-twice (columns_of p q c.args.tables.now c.args.table) c.args.what c.in_ok-discounted.discounted.items
    c.in_ok-sums.sums.items c.in_ok-sums_of_sums.sums_of_sums.items column.few (column.entries p q powers)
    (rw c.deref.ensures.value at c.in_ok-sums.ensures) (rw c.deref-2.ensures.value at c.in_ok-sums_of_sums.ensures)
