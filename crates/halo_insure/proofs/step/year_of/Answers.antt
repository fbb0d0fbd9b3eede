use Rattle.std.proofs.Common.{lit<, refl}
use Rattle.halo_status.specs.Pay.{pay_of}
use Rattle.halo_compile.specs.OfTask.{pay_of_task}
use Rattle.halo_compile.proofs.Coefficients.{coefficients-of-one}
use Rattle.halo_insure.proofs.Small.{coefficient-within}
use Rattle.halo_insure.proofs.Tasks.{has-form, next-of-form}
use Rattle.halo_insure.proofs.step.year_of.Goals as goal

pub at-requires : goal.at-requires
at-requires g c =
    (lit< tt, (lit< tt, has-form c.args.task.now c.requires.task c.requires.insurance c.args.k c.requires.time))

pub at-requires-2 : goal.at-requires-2
at-requires-2 g c =
    (lit< tt, (lit< tt, has-form c.args.task.now c.requires.task c.requires.insurance _ c.next_time.ensures.within))

pub returns : goal.returns
returns g c =
    let task = c.args.task.now in
    let few = c.start-start.ensures.group.few in
    let here = coefficients-of-one (pay_of task.pay.now) g.row.N c.args.k c.at.result.now
    (c.at.ensures (pay_of task.pay.now) g.row.N task.horizon c.requires.task.form) in
    let later = c.at-2.ensures (pay_of task.pay.now) g.row.N task.horizon c.requires.task.form in
    record {
      discount = c.year.ensures.encloses;
      narrow = c.year.ensures.narrow;
      within = c.year.ensures.within;
      payment = c.payment_in.ensures.payment;
      small = c.payment_in.ensures.small;
      counts = refl;
      here = here;
      next = next-of-form task c.args.k c.next_time.result c.goes_on.result c.at-2.result.now later c.goes_on.ensures
          c.next_time.ensures.next;
      here_sized = λ mask below. rw (here mask below) (coefficient-within (pay_of_task task) c.args.k g.row.N mask few);
      next_sized = λ mask below.
          rw (coefficients-of-one (pay_of task.pay.now) g.row.N c.next_time.result c.at-2.result.now later mask below)
          (coefficient-within (pay_of_task task) c.next_time.result g.row.N mask few);
    }
