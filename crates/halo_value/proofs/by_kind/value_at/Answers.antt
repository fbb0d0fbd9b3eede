use Rattle.halo_sums.specs.Masks.{has_bit}
use Rattle.halo_status.specs.Pay.{pay_of}
use Rattle.halo_compile.specs.OfTask.{basis_of_task}
use Rattle.halo_value.proofs.AmountOne.{of-annuity, of-any-amount}
use Rattle.halo_value.proofs.by_kind.value_at.Goals as goal

pub returns-in-Insurance-clause-encloses : goal.returns-in-Insurance-clause-encloses
returns-in-Insurance-clause-encloses g c =
    let task = c.args.task.now in
    of-any-amount (basis_of_task task task.group.now.ties) (pay_of task.pay.now) c.args.t (has_bit c.args.alive)
    c.value_at.result c.value_at.ensures

pub returns-in-Immediate-clause-encloses : goal.returns-in-Immediate-clause-encloses
returns-in-Immediate-clause-encloses g c =
    let value = c.value_at-in-Immediate in
    of-annuity c.args.task.now c.args.t c.args.alive value.result value.ensures.encloses value.ensures.within
    c.args.task.now.group.now.ties

pub returns-in-Due-clause-encloses : goal.returns-in-Due-clause-encloses
returns-in-Due-clause-encloses g c =
    let value = c.value_at-in-Due in
    of-annuity c.args.task.now c.args.t c.args.alive value.result value.ensures.encloses value.ensures.within
    c.args.task.now.group.now.ties
