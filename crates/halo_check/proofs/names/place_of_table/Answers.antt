use Rattle.halo_check.proofs.Places.{no_table_at, table_at}
use Rattle.halo_check.proofs.names.place_of_table.Goals as goal

pub returns-clause-some : goal.returns-clause-some
returns-clause-some c =
    table_at c.args.tables.now c.args.name.now c.find.result c.find.ensures.found c.find.ensures.only

pub returns-clause-none : goal.returns-clause-none
returns-clause-none c = no_table_at c.args.tables.now c.args.name.now c.find.result c.find.ensures.none
