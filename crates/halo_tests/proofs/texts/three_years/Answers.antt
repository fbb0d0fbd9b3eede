-- Three lives have eight sets.
use Rattle.std.proofs.Common.{arith, refl, rules}
use Rattle.halo_tests.proofs.texts.three_years.Goals as goal

pub compile-requires : goal.compile-requires
compile-requires c =
    (search rules, (record { lives = 3; some = omega arith; few = omega arith; is = refl }, (omega arith, omega arith)))
