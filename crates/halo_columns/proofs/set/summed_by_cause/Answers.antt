use Rattle.std.proofs.Common.{◌≡◌, arith}
use Rattle.halo_columns.specs.Entries.{columns_of}
use Rattle.halo_columns.proofs.SummedColumns.{no-cause, one-cause-more}
use Rattle.halo_columns.proofs.set.summed_by_cause.Goals as goal

pub loop-cause-init : goal.loop-cause-init
loop-cause-init c p q powers =
    rw c.new-by_cause.ensures.items (no-cause (columns_of p q c.args.tables.now c.args.table))

pub loop-cause-preserved : goal.loop-cause-preserved
loop-cause-preserved c p q powers = rw c.in_ok-push.ensures.items
    (one-cause-more (columns_of p q c.args.tables.now c.args.table) c.loop-cause.cause c.loop-cause.by_cause.items
    c.in_ok-summed_once.field-0
    (c.loop-cause.invariant p q powers) (c.in_ok-summed_once.ensures p q powers))

pub returns : goal.returns
returns c p q powers =
    let all : c.loop-cause.cause ≡ c.causes-cause-end.result
    = omega (arith, c.loop-cause-test.false, c.loop-cause.auto.cause-end) in
    rw (all, c.causes-cause-end.ensures.all) at (c.loop-cause.invariant p q powers)
