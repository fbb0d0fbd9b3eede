use Rattle.std.proofs.Common.{◌-◌, arith}
use Rattle.halo_table.proofs.LookUps.{with_row_seen}
use Rattle.halo_table.proofs.reading.add_to_last.Goals as goal

pub returns : goal.returns
returns c =
    with_row_seen c.args.tables.now.items (c.len-last.result - 1) c.index_mut.result.now
    c.index_mut.result.now c.args.row c.push.new.self (omega (arith, c.args.tables.now.ok.0))
    c.index_mut.ensures.value c.in_ok-push.ensures.items
