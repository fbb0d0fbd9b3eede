use Rattle.std.proofs.Common.{◌≡◌, suc, ◌+◌, ◌-◌, ◌*◌, ◌^◌, ◌≤◌, arith, lit<, subst}
use Rattle.std.proofs.Math.Nat.{mul-le-mul_right}
use Rattle.halo_sums.specs.Masks.{bits}
use Rattle.halo_status.specs.Pay.{pay_of}
use Rattle.halo_life.specs.Lists.{entry}
use Rattle.halo_compile.specs.Form.{run_of, segment_at}
use Rattle.halo_compile.specs.NamedSets.{named_of_task}
use Rattle.halo_compile.specs.OfTask.{basis_of_task, pay_of_task}
use Rattle.halo_compile.proofs.NamedSets.{all-named, named-within, set-below}
use Rattle.halo_annuity.specs.Payments.{ArePaidBefore}
use Rattle.halo_annuity.proofs.Payments.{none-paid}
use Rattle.halo_annuity.proofs.TaskFacts.{same-times, segment-in-time}
use Rattle.halo_annuity.proofs.paid.pay_segment.Goals as goal

pub clear-requires : goal.clear-requires
clear-requires g c =
    let body = (pay_of c.args.task.now.pay.now).body in
    let named = all-named c.lives.result body c.lives.ensures in
    (lit< tt, set-below c.args.task.now c.requires.task c.lives.result named)

pub overflow_add-t-end : goal.overflow_add-t-end
overflow_add-t-end g c =
    let task = c.args.task.now in
    let times = segment-in-time task c.requires.task c.args.segment c.requires.segment in
    let read = same-times {s = segment_at task.form.now c.args.segment} c.segment-run.ensures in
    omega (arith, read.1, times.1, c.requires.task.horizon_in)

pub loop-t-init : goal.loop-t-init
loop-t-init g c =
    let task = c.args.task.now in
    let segment = segment_at task.form.now c.args.segment in
    let times = segment-in-time task c.requires.task c.args.segment c.requires.segment in
    let read = same-times {s = segment} c.segment-run.ensures in
    record {
      from = omega (arith, read.0);
      to = omega (arith, read.0, times.0);
      paid = rw (read.0) (λ ties mask each. none-paid (basis_of_task task ties) g.row.N (pay_of_task task) segment.to
          (bits g.row.N mask) segment.from (entry c.clear.new.work.minus mask)
          (c.clear.ensures.minus mask
          (named-within c.lives.result (pay_of task.pay.now).body c.lives.ensures mask each)));
      cost = omega (arith, read.0, c.powers-powers.ensures.cost);
    }

pub pay_time-requires : goal.pay_time-requires
pay_time-requires g c =
    let task = c.args.task.now in
    let segment = segment_at task.form.now c.args.segment in
    let times = segment-in-time task c.requires.task c.args.segment c.requires.segment in
    let read = same-times {s = segment} c.segment-run.ensures in
    let is = c.loop-t.invariant in (
      lit< tt,
      (
        lit< tt,
        (
          lit< tt,
          (
            c.requires.task,
            (
              omega (arith, read.0, is.from),
              (
                omega (arith, c.loop-t-test.true),
                (
                  omega (arith, read.1, times.1, c.requires.task.horizon_in),
                  (c.powers-powers.ensures.powers, rw c.segment-run.ensures is.paid),
                ),
              ),
            ),
          ),
        ),
      ),
    )

pub loop-t-preserved : goal.loop-t-preserved
loop-t-preserved g c =
    let task = c.args.task.now in
    let segment = segment_at task.form.now c.args.segment in
    let read = same-times {s = segment} c.segment-run.ensures in
    let is = c.loop-t.invariant in
    let next : suc c.loop-t.t ≡ c.loop-t.t + 1 = omega arith in
    let more : c.loop-t.t + 1 - segment.from ≡ (c.loop-t.t - segment.from) + 1 = omega (arith, is.from) in
    record {
      from = omega (arith, is.from);
      to = omega (arith, read.1, c.loop-t-test.true);
      paid = rw (next, c.segment-run.ensures) at c.pay_time.ensures.paid;
      cost = rw more (omega (arith, is.cost, c.pay_time.ensures.cost));
    }

pub returns-clause-paid : goal.returns-clause-paid
returns-clause-paid g c =
    let task = c.args.task.now in
    let segment = segment_at task.form.now c.args.segment in
    let read = same-times {s = segment} c.segment-run.ensures in
    let is = c.loop-t.invariant in
    let all : c.loop-t.t ≡ suc segment.to = omega (arith, read.1, is.to, c.loop-t-test.false) in
    subst (λ t. ArePaidBefore task (run_of segment) t c.loop-t.work) all is.paid

pub returns-clause-cost : goal.returns-clause-cost
returns-clause-cost g c =
    let task = c.args.task.now in
    let segment = segment_at task.form.now c.args.segment in
    let times = segment-in-time task c.requires.task c.args.segment c.requires.segment in
    let is = c.loop-t.invariant in
    let few : (c.loop-t.t - segment.from) * 2 ^ named_of_task task ≤ (task.horizon + 1) * 2 ^ named_of_task task =
    mul-le-mul_right (2 ^ named_of_task task)
    (omega (arith, is.to, times.1)) in
    omega (arith, is.cost, few)
