-- Two lives have four sets.
use Rattle.std.proofs.Common.{arith, refl, rules}
use Rattle.halo_poly.proofs.tests.one.Goals as goal

pub zero-requires : goal.zero-requires
zero-requires c = (search rules, record { lives = 2; some = omega arith; few = omega arith; is = refl })
