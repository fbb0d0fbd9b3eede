-- Three lives have eight sets.
use Rattle.std.proofs.Common.{arith, refl, rules}
use Rattle.halo_poly.proofs.tests.last_of_two.Goals as goal

pub of_sets-requires : goal.of_sets-requires
of_sets-requires c = (search rules, (record { lives = 3; some = omega arith; few = omega arith; is = refl }, refl))
