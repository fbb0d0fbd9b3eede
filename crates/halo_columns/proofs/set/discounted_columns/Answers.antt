use Rattle.halo_columns.specs.Entries.{columns_of}
use Rattle.halo_columns.proofs.SummedColumns.{columns-enclosed}
use Rattle.halo_columns.proofs.set.discounted_columns.Goals as goal

pub returns : goal.returns
returns c p q powers =
    columns-enclosed (columns_of p q c.args.tables.now c.args.table)
    (record {
      last_age = c.last_age.result;
      survivors = c.in_ok-survivors.survivors;
      leavers = c.in_ok-leavers.leavers;
      by_cause = c.in_ok-by_cause.by_cause.items;
    })
    c.last_age.ensures.age (c.in_ok-survivors.ensures p q powers) (c.in_ok-leavers.ensures p q powers)
    (c.in_ok-by_cause.ensures p q powers)
