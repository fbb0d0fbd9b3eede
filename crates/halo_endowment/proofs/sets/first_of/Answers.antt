use Rattle.std.proofs.Common.{refl, w16}
use Rattle.std.proofs.lemmas.Nat.Bits.{bit_at-trailing_zeros}
use Rattle.halo_endowment.proofs.sets.first_of.Goals as goal

pub returns-clause-within : goal.returns-clause-within
returns-clause-within c =
    let low = bit_at-trailing_zeros w16 c.args.set c.requires c.ranges.set.fits in
    rw (low.1) refl
