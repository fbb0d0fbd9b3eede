-- The segments before a time are built.
use Rattle.std.proofs.Common.{◌≡◌, ℕ, ◌-◌, ◌^◌, ◌≤◌, length}
use Rattle.halo_status.specs.Pay.{pay_of}
use Rattle.halo_model.specs.Segment.{first_time}
use Rattle.halo_compile.proofs.Built.{IsBuilt}
use Rattle.halo_compile.proofs.segments.compile.Given as goal

abbrev pub invariant-loop-from : goal.invariant-loop-from
invariant-loop-from g l =
    record {
      room : length l.marked.items ≡ g.row.M;
      within : l.from ≤ l.end;
      built : (n : ℕ) → g.row.M ≡ 2 ^ n
          → IsBuilt (pay_of l.pay) n (first_time l.pay.kind) l.from l.end l.segments.items;
    }

abbrev pub decreases-loop-from : goal.decreases-loop-from
decreases-loop-from g l = l.end - l.from
