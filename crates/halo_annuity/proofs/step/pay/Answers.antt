use Rattle.std.proofs.Common.{suc, ◌≤◌, arith, lit<, refl, sym, ◌∙◌}
use Rattle.halo_sums.specs.Masks.{bits}
use Rattle.halo_status.specs.Pay.{pay_of}
use Rattle.halo_model.specs.Segment.{first_time}
use Rattle.halo_compile.proofs.Times.{coefficients-by-mask, time-has-segment}
use Rattle.halo_compile.specs.OfTask.{basis_of_task, pay_of_task}
use Rattle.halo_compile.proofs.Coefficients.{coefficient-sized, coefficients-of-one}
use Rattle.halo_annuity.proofs.Passes.{none-paid, sets-paid}
use Rattle.halo_sums.proofs.SetMasks.{length-bits}
use Rattle.halo_sums.proofs.Within.{within-below}
use Rattle.halo_compile.proofs.NamedSets.{all-named, modest-within, named-within, set-below}
use Rattle.halo_annuity.proofs.TaskFacts.{form-begun}
use Rattle.halo_annuity.proofs.step.pay.Goals as goal

pub returns-then-paid-eq0 : goal.returns-then-paid-eq0
returns-then-paid-eq0 g c = record {
  paid = λ ties years held.
      let task = c.args.task.now in
      none-paid (basis_of_task task ties) (pay_of_task task) c.args.start g.row.N c.args.t years
      (suc years) c.args.work.now refl (sym c.paid_at-paid.ensures.value ∙ c.if-paid-eq0.true) held;
}

pub at-requires : goal.at-requires
at-requires g c =
    let task = c.args.task.now in
    let begun : first_time task.pay.now.kind ≤ c.args.t = form-begun
    (pay_of_task task) c.args.start c.args.t (λ none. c.if-paid-eq0.false (c.paid_at-paid.ensures.value ∙ none)) in (
      lit< tt,
      (
        lit< tt,
        time-has-segment
            (pay_of task.pay.now) g.row.N task.horizon c.args.t task.form.now c.requires.task.form begun c.requires.to,
      ),
    )

pub pay_sets-requires : goal.pay_sets-requires
pay_sets-requires g c =
    let task = c.args.task.now in
    let named = all-named c.lives.result (pay_of task.pay.now).body c.lives.ensures in
    let below = set-below task c.requires.task c.lives.result named in
    let few = c.start-start.ensures.group.few in (
      lit< tt,
      (
        lit< tt,
        (
          below,
          (
            c.paid_at-paid.ensures.small,
            (
              λ mask within. rw (coefficients-by-mask (pay_of task.pay.now) g.row.N c.args.t c.at.result.now
                  (c.at.ensures (pay_of task.pay.now) g.row.N task.horizon c.requires.task.form) mask
                  (omega (arith, c.requires.task.sets, below, within-below mask c.lives.result within)))
                  (coefficient-sized (pay_of task.pay.now) c.args.t (bits g.row.N mask)
                  (omega (arith, few, length-bits g.row.N mask))),
              modest-within task c.requires.task c.lives.result named c.args.work.now c.requires.modest,
            ),
          ),
        ),
      ),
    )

pub returns : goal.returns
returns g c = record {
  paid = λ ties years held.
      let task = c.args.task.now in
      let within = named-within c.lives.result (pay_of task.pay.now).body c.lives.ensures in
      sets-paid (basis_of_task task ties) (pay_of_task task) c.args.start g.row.N c.args.t years
      (suc years) c.paid_at-paid.result c.at.result.now c.args.work.now c.pay_sets.new.work
      refl c.paid_at-paid.ensures.value
      (coefficients-of-one (pay_of task.pay.now) g.row.N c.args.t c.at.result.now
      (c.at.ensures (pay_of task.pay.now) g.row.N task.horizon c.requires.task.form))
      held
      (λ mask below each. c.pay_sets.ensures.plus mask (within mask each))
      (λ mask below each. c.pay_sets.ensures.minus mask (within mask each));
}
