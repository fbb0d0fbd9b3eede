use Rattle.std.proofs.Common.{◌≤ℤ◌}
use Rattle.halo_sums.specs.Masks.{has_bit}
use Rattle.halo_status.specs.Pay.{pay_of}
use Rattle.halo_contract.specs.declared.ties.Ties.{Ties}
use Rattle.halo_contract.specs.declared.ties.Ties.TheVariants.{Declared}
use Rattle.halo_model.specs.Enclosed.{of_one}
use Rattle.halo_along.specs.Along.{basis_of_tree_task}
use Rattle.halo_along.specs.Years.{EnclosesOnePaid, EnclosesPresent, present_value_of_one, width_of_one}
use Rattle.halo_along.proofs.OnePaid.{one-paid}
use Rattle.halo_along.proofs.years.value_of_one.Given.{Over}
use Rattle.halo_along.proofs.years.value_of_one.Goals.{After-mul}
use Rattle.halo_along.proofs.years.value_of_one.Goals as goal

one : (g : Over) (c : After-mul g) (ties : Ties) →
    let along = c.args.along.now in
    let b = basis_of_tree_task along ties in
    let start = along.group.now.start in
    let living = has_bit along.group.now.alive in
    EnclosesPresent b start living (present_value_of_one b (of_one (pay_of along.pay.now)) start living c.args.t)
    (width_of_one along) 1 c.mul.result
    × (c.mul.result.lo ≤ℤ c.mul.result.hi)
one g c ties =
    let r = c.requires in
    one-paid c.args.along.now r.along r.unmarked c.start-start.ensures.group c.fractions-fractions.ensures.interest ties
    c.args.t r.from r.to c.survivals-survivals.result c.args.discount c.chance-existence.result c.mul.result
    c.view_of-view.result c.survivals-survivals.ensures.survivals r.discount c.view_of-view.ensures
    (c.chance-existence.ensures.along _ _ (λ i. 1)) c.mul.ensures.chance

pub returns-clause-one : goal.returns-clause-one
unfolding EnclosesOnePaid
returns-clause-one g c = λ ties. (one g c ties).0

pub returns-clause-order : goal.returns-clause-order
returns-clause-order g c = (one g c Declared).1
