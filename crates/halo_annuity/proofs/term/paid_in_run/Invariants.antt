use Rattle.std.proofs.Common.{suc, ◌+◌, ◌*◌, ◌-◌, ◌≤◌}
use Rattle.halo_annuity.specs.RunWorth.{EnclosesRun}
use Rattle.halo_annuity.proofs.term.paid_in_run.Given as goal

abbrev pub invariant-loop-back : goal.invariant-loop-back
invariant-loop-back g l = record {
  worth : EnclosesRun l.task
      (record { first = l.from; last = l.to }) l.times l.set (l.to - l.back) (suc l.back) l.value;
  cost : l.steps ≤ l.initial.steps + (g.row.N + 2) * l.back;
}
