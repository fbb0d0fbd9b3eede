use Rattle.std.proofs.Common.{suc, ◌+◌, ◌-◌, ◌*◌, ◌^◌, ◌≤◌}
use Rattle.halo_interest.specs.declared.powers.TheConstants.{LAST_TIME}
use Rattle.halo_compile.specs.Form.{run_of, segment_at}
use Rattle.halo_compile.specs.NamedSets.{named_of_task}
use Rattle.halo_annuity.specs.Payments.{ArePaidBefore}
use Rattle.halo_annuity.proofs.paid.pay_segment.Given as goal

abbrev pub invariant-loop-t : goal.invariant-loop-t
invariant-loop-t g l =
    let segment = segment_at l.task.form.now l.segment in
    record {
      from : segment.from ≤ l.t;
      to : l.t ≤ suc segment.to;
      paid : ArePaidBefore l.task (run_of segment) l.t l.work;
      cost : l.steps ≤ l.fn.steps + LAST_TIME + (l.t - segment.from) * 2 ^ named_of_task l.task;
    }
