use Rattle.halo_status.specs.Pay.{pay_of}
use Rattle.halo_along.specs.Along.{EnclosesAlong}
use Rattle.halo_along.proofs.SameLives.{one-then}
use Rattle.halo_along.proofs.annuity.annuity_along.Goals as goal

pub returns-clause-encloses : goal.returns-clause-encloses
unfolding EnclosesAlong
returns-clause-encloses g c = λ ties.
    let along = c.args.along.now in
    one-then along.interest.now along.group.now c.new-group.result c.args.t c.args.alive ties (pay_of along.pay.now)
    c.annuity_at_start.result (rw (c.tables.ensures.value, c.lives.ensures.value) at c.new-group.ensures)
    (c.annuity_at_start.ensures.encloses ties)
