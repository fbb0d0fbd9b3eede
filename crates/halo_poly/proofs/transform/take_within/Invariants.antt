-- The sets within the named lives up to this one have had their pass, and the others are as they were.
use Rattle.std.proofs.Common.{◌-◌, ◌-ℤ◌}
use Rattle.halo_poly.specs.Poly.{coefficient_at}
use Rattle.halo_poly.specs.Transform.{without}
use Rattle.halo_poly.proofs.Walks.{HasCome}
use Rattle.halo_poly.proofs.transform.take_within.Given as goal

abbrev pub invariant-loop-set : goal.invariant-loop-set
invariant-loop-set l =
    HasCome l.named (λ k. coefficient_at l.fn.values k -ℤ without l.fn.values l.life k) l.fn.values l.values l.set

abbrev pub decreases-loop-set : goal.decreases-loop-set
decreases-loop-set l = l.named - l.set
