-- Three lives have eight sets.
use Rattle.std.proofs.Common.{arith, refl, rules}
use Rattle.halo_poly.proofs.tests.last_of_two_within.Goals as goal

pub of_sets_within-requires : goal.of_sets_within-requires
of_sets_within-requires c =
    (search rules, (record { lives = 3; some = omega arith; few = omega arith; is = refl }, (refl, omega arith)))
