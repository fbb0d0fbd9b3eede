use Rattle.std.proofs.Common.{lit<}
use Rattle.halo_status.specs.Pay.{pay_of}
use Rattle.halo_model.specs.SetValue.{all_events}
use Rattle.halo_compile.specs.OfTask.{pay_of_task}
use Rattle.halo_compile.proofs.NamedSets.{all-named, named-within, set-below}
use Rattle.halo_insure.specs.OfTask.{insured_basis}
use Rattle.halo_insure.proofs.Carried.{none-held}
use Rattle.halo_insure.proofs.step.at_horizon.Goals as goal

pub clear_all-requires : goal.clear_all-requires
clear_all-requires g c =
    let body = (pay_of c.args.task.now.pay.now).body in
    let named = all-named c.lives.result body c.lives.ensures in
    (lit< tt, set-below c.args.task.now c.requires.task c.lives.result named)

pub returns : goal.returns
returns g c = record {
  values = λ t past.
      let task = c.args.task.now in
      let body = (pay_of task.pay.now).body in
      none-held (insured_basis task)
      (pay_of_task task) all_events g.row.N t c.clear_all.new.work (rw (← c.requires.task.horizon_is) past)
      (λ mask below each. c.clear_all.ensures.cleared mask
      (named-within c.lives.result body c.lives.ensures mask each));
}
