-- At least so many, and not one more.
use Rattle.std.proofs.Common.{arith, ap}
use Rattle.halo_sums.specs.Masks.{has_bit}
use Rattle.halo_status.proofs.Words.{has_bit-and_not}
use Rattle.halo_status.proofs.blocks.exactly.Goals as goal

pub returns : goal.returns
returns c = λ j h. has_bit-and_not c.at_least.result c.at_least-2.result j _ _
    (omega arith) h (ap (λ n. has_bit n j) c.at_least.ensures) (ap (λ n. has_bit n j) c.at_least-2.ensures)
