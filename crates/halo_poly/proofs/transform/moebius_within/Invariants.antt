-- On the sets within the named lives, the passes for the lives before this one are made.
use Rattle.halo_poly.specs.Poly.{coefficient_of}
use Rattle.halo_poly.proofs.Transforms.{Holds}
use Rattle.halo_poly.proofs.PartPasses.{part_passes}
use Rattle.halo_poly.proofs.transform.moebius_within.Given as goal

abbrev pub invariant-loop-life : goal.invariant-loop-life
invariant-loop-life l = Holds l.lives (part_passes l.named l.life (coefficient_of l.fn.values)) l.values
