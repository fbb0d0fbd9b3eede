use Rattle.halo_check.proofs.Places.{table_told}
use Rattle.halo_check.proofs.names.is_table.Goals as goal

pub returns : goal.returns
returns c =
    rw c.is_some.ensures (table_told c.args.tables.now c.args.name.now c.place_of_table.result
    c.place_of_table.ensures.some c.place_of_table.ensures.none)
