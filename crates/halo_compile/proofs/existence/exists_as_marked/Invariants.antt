-- The sets up to this one are marked as the pay exists on them, and its block is at hand.
use Rattle.std.proofs.Common.{◌-◌}
use Rattle.halo_status.specs.Pay.{pay_of}
use Rattle.halo_compile.proofs.Marking.{IsMarkedTo}
use Rattle.halo_compile.proofs.existence.exists_as_marked.Given as goal

abbrev pub invariant-loop-set : goal.invariant-loop-set
invariant-loop-set l = IsMarkedTo (pay_of l.pay) l.t l.named l.set l.marks l.marked

abbrev pub decreases-loop-set : goal.decreases-loop-set
decreases-loop-set l = l.named - l.set
