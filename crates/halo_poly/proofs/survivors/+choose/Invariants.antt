-- The number of things falls.
use Rattle.halo_poly.proofs.survivors.+choose.Given as goal

abbrev pub decreases-choose : goal.decreases-choose
decreases-choose l = l.n
