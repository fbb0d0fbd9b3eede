use Rattle.halo_check.proofs.Places.{cause_told}
use Rattle.halo_check.proofs.names.is_cause.Goals as goal

pub returns : goal.returns
returns c =
    rw c.is_some.ensures (cause_told c.args.tables.now c.args.name.now c.cause.result c.cause.ensures.found
    c.cause.ensures.none)
