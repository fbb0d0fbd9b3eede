use Rattle.std.proofs.Common.{◌+◌, ◌*◌, ◌^◌, ◌≤◌}
use Rattle.halo_status.specs.Nodes.{nodes}
use Rattle.halo_status.specs.Pay.{pay_of}
use Rattle.halo_model.specs.Counts.{lives_named}
use Rattle.halo_along.specs.Contingent.{EnclosesOnLives}
use Rattle.halo_along.proofs.contingent.value_of_lives.Given as goal

abbrev pub invariant-loop-life : goal.invariant-loop-life
invariant-loop-life g l =
    let body = (pay_of l.along.pay.now).body in
    record {
      total : EnclosesOnLives l.along l.life l.total;
      cost : l.steps ≤ l.fn.steps
          + lives_named l.life body * (l.along.horizon * (4 * (nodes body + 1) ^ 2 + 3));
    }
