-- Multiples of chances.
use Rattle.std.proofs.Common.{◌≡◌, ℕ, ◌*◌, arith, pos, ◌*ℤ◌, ◌≤ℤ◌, mul_comm}
use Rattle.std.proofs.lemmas.Int.{ints, clamps}
use Rattle.std.specs.Int.{int_max}
use Rattle.halo_num.specs.Ends.{Ends, HasWidth, IsSized, fine}
use Rattle.halo_num.specs.Enclosure.{Encloses}
use Rattle.halo_sums.proofs.Integers.{mul_le_pos}

-- a multiple of what is not above one
pub multiple-bound : (r a : Ends) (count : ℕ) → r.hi ≡ int_max (a.lo *ℤ pos count) (a.hi *ℤ pos count)
    → a.lo ≤ℤ a.hi → a.hi ≤ℤ pos fine → r.hi ≤ℤ pos (count * fine)
multiple-bound r a count e order within =
    let x = mul_le_pos a.hi (pos fine) count within in
    let y = mul_le_pos a.lo a.hi count order in
    rw e (omega (arith, ints, clamps, x, y))

-- a multiple of a fraction
pub multiple-encloses : (r : Ends) (n count d : ℕ) → Encloses r (pos n *ℤ pos count) d → Encloses r (pos (count * n)) d
multiple-encloses r n count d e = rw (mul_comm count n) e

pub multiple-narrow : (r : Ends) (w count : ℕ) → HasWidth r (w * count) → HasWidth r (count * w)
multiple-narrow r w count h = rw (mul_comm count w) h

pub sized : (count : ℕ) → IsSized (pos count) count
sized count = record { low = omega (arith, ints); high = omega (arith, ints) }
