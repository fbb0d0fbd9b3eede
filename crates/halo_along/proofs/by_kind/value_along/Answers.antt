use Rattle.halo_along.specs.Along.{EnclosesAlong}
use Rattle.halo_along.proofs.by_kind.value_along.Goals as goal

pub returns-then-ne-clause-encloses : goal.returns-then-ne-clause-encloses
unfolding EnclosesAlong
returns-then-ne-clause-encloses g c = c.annuity_along.ensures.encloses c.args.along.now.group.now.ties

pub returns-then-pays_by_its_body-clause-encloses : goal.returns-then-pays_by_its_body-clause-encloses
unfolding EnclosesAlong
returns-then-pays_by_its_body-clause-encloses g c =
    c.insurance_along.ensures.encloses c.args.along.now.group.now.ties
