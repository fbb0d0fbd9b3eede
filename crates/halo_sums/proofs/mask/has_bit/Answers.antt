-- A mask of 16 bits has no bit from 16 on.
use Rattle.std.proofs.Common.{◌≡◌, ℕ, ◌<◌, ◌≤◌, ◌^◌, ◌/◌, false, arith}
use Rattle.std.proofs.Math.Nat.{div-eq_of_lt, pow-le-pow_right, lt_of_lt_of_le}
use Rattle.std.proofs.lemmas.Bool.{le-ltb}
use Rattle.halo_sums.specs.Masks.{has_bit}
use Rattle.halo_sums.proofs.mask.has_bit.Goals as goal

has_no_bit : (mask i : ℕ) → mask < 2 ^ 16 → 16 ≤ i → has_bit mask i ≡ false
has_no_bit mask i small high =
    let none : mask / 2 ^ i ≡ 0 = div-eq_of_lt (lt_of_lt_of_le small (pow-le-pow_right (omega arith) high)) in rw none

pub returns-else-i-lt-PLACES : goal.returns-else-i-lt-PLACES
returns-else-i-lt-PLACES c =
    rw (has_no_bit c.args.mask c.args.i c.ranges.mask.fits c.if-i-lt-PLACES.false) (le-ltb _ _ c.if-i-lt-PLACES.false)
