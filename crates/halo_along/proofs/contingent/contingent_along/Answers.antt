use Rattle.halo_status.specs.Pay.{pay_of}
use Rattle.halo_contract.specs.declared.ties.Ties.TheVariants.{Declared}
use Rattle.halo_along.proofs.SameLives.{one-then}
use Rattle.halo_along.proofs.contingent.contingent_along.Goals as goal

pub returns-clause-encloses : goal.returns-clause-encloses
returns-clause-encloses g c =
    let along = c.args.along.now in
    one-then along.interest.now along.group.now c.new-group.result c.args.t c.args.alive Declared (pay_of along.pay.now)
    c.contingent_at_start.result (rw (c.tables.ensures.value, c.lives.ensures.value) at c.new-group.ensures)
    c.contingent_at_start.ensures.value
