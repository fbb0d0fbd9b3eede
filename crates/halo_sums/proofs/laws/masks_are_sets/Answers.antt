use Rattle.halo_sums.proofs.Masks.{has_bit-bits, int_sum_over-masks}
use Rattle.halo_sums.proofs.laws.masks_are_sets.Goals as goal

pub returns-clause-sums : goal.returns-clause-sums
returns-clause-sums c = int_sum_over-masks

pub returns-clause-members : goal.returns-clause-members
returns-clause-members c = has_bit-bits
