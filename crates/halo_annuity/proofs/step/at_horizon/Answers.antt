use Rattle.std.proofs.Common.{lit<}
use Rattle.halo_status.specs.Pay.{pay_of}
use Rattle.halo_model.specs.FromTables.{lives_of}
use Rattle.halo_compile.specs.OfTask.{basis_of_task, pay_of_task}
use Rattle.halo_compile.proofs.NamedSets.{all-named, named-within, set-below}
use Rattle.halo_annuity.proofs.AtTimes.{nothing-left}
use Rattle.halo_annuity.proofs.TaskFacts.{some-years}
use Rattle.halo_annuity.proofs.step.at_horizon.Goals as goal

pub clear-requires : goal.clear-requires
clear-requires g c =
    let body = (pay_of c.args.task.now.pay.now).body in (
      lit< tt,
      set-below c.args.task.now c.requires.task c.lives.result (all-named c.lives.result body c.lives.ensures),
    )

pub returns : goal.returns
returns g c = record {
  values = λ t after ties.
      let task = c.args.task.now in
      let body = (pay_of task.pay.now).body in
      nothing-left
      (basis_of_task task ties) (pay_of_task task) g.row.N t task.horizon c.clear.new.work c.requires.annuity
      (rw c.requires.task.horizon_is (some-years (lives_of task.group.now.file task.group.now.lives) body)) after
      (λ mask below each.
      let within = named-within c.lives.result body c.lives.ensures mask each in
      (c.clear.ensures.plus mask within, c.clear.ensures.minus mask within));
}
