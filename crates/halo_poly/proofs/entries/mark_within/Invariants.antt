-- The sets within the named lives up to this one are written, and the others are as they were.
use Rattle.std.proofs.Common.{◌-◌, false, get_or}
use Rattle.halo_sums.specs.Sums.{indicator}
use Rattle.halo_poly.proofs.Walks.{HasCome}
use Rattle.halo_poly.proofs.entries.mark_within.Given as goal

abbrev pub invariant-loop-set : goal.invariant-loop-set
invariant-loop-set l = HasCome l.named (λ k. indicator (get_or l.marked k false)) l.fn.values l.values l.set

abbrev pub decreases-loop-set : goal.decreases-loop-set
decreases-loop-set l = l.named - l.set
