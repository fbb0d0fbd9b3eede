-- The sets before the mask have had their pass, and the others are as they were.
use Rattle.std.proofs.Common.{◌+ℤ◌}
use Rattle.halo_poly.specs.Poly.{coefficient_at}
use Rattle.halo_poly.specs.Transform.{without}
use Rattle.halo_poly.proofs.Steps.{HasPassed}
use Rattle.halo_poly.proofs.transform.add_without.Given as goal

abbrev pub invariant-loop-mask : goal.invariant-loop-mask
invariant-loop-mask l =
    HasPassed (λ k. coefficient_at l.fn.values k +ℤ without l.fn.values l.life k) l.fn.values l.values l.mask
