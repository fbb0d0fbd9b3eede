use Rattle.std.proofs.Common.{arith, refl}
use Rattle.halo_model.specs.SetValue.{all_events}
use Rattle.halo_compile.specs.OfTask.{pay_of_task}
use Rattle.halo_compile.proofs.Tasks.{few-sets}
use Rattle.halo_insure.specs.OfTask.{insured_basis}
use Rattle.halo_insure.proofs.Bounds.{total-encloses}
use Rattle.halo_insure.proofs.Small.{dues-modest}
use Rattle.halo_insure.proofs.whole.insurance_all.Goals as goal

pub returns-clause-totals : goal.returns-clause-totals
returns-clause-totals g c = λ alive named are.
    let task = c.args.task.now in
    total-encloses task c.requires.task c.start-start.ensures.group c.requires.insurance task.group.now.start alive
    named are c.pass.new.work c.pass.ensures.values

pub returns-clause-modest : goal.returns-clause-modest
returns-clause-modest g c = λ set below named.
    let task = c.args.task.now in
    let is = c.requires.task in
    dues-modest (insured_basis task) (pay_of_task task) refl is.valid.vary
    (rw (← is.horizon_is) is.horizon_in) all_events g.row.N c.start-start.ensures.group.few task.group.now.start
    c.pass.new.work c.pass.ensures.values set (omega (arith, below, is.sets)) named

pub returns-clause-few : goal.returns-clause-few
returns-clause-few g c = few-sets g.row.N g.row.M c.requires.task.sets c.start-start.ensures.group.few
