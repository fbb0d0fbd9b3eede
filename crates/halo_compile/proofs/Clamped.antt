-- An enclosure and the bounds of what it encloses.
use Rattle.std.proofs.Common.{ℕ, ◌*◌, ◌<◌, ◌≤◌, pos, ◌*ℤ◌, ◌≤ℤ◌, arith}
use Rattle.std.proofs.lemmas.Int.{ints}
use Rattle.std.proofs.Math.Nat.{mul-le-mul_right}
use Rattle.halo_sums.proofs.Integers.{le_of_mul_pos, le_trans}
use Rattle.halo_num.specs.Ends.{Ends, fine}
use Rattle.halo_num.specs.Enclosure.{Encloses}

-- a value that is at most so many ones, and at least so many
pub ones-above : (num den most : ℕ) → num ≤ most * den → (pos num *ℤ pos fine) ≤ℤ (pos (most * fine) *ℤ pos den)
ones-above num den most h = let m : num * fine ≤ most * den * fine = mul-le-mul_right fine h in omega (arith, ints, m)

pub ones-below : (num den least : ℕ) → least * den ≤ num → (pos (least * fine) *ℤ pos den) ≤ℤ (pos num *ℤ pos fine)
ones-below num den least h = let m : least * den * fine ≤ num * fine = mul-le-mul_right fine h in omega (arith, ints, m)

-- its enclosure meets the bounds
pub meets-above : (i : Ends) (num den most : ℕ)
    → 0 < den → Encloses i (pos num) den → num ≤ most * den → i.lo ≤ℤ pos (most * fine)
meets-above i num den most some e h = le_of_mul_pos i.lo (pos (most * fine)) den some
    (le_trans (i.lo *ℤ pos den) (pos num *ℤ pos fine) (pos (most * fine) *ℤ pos den) e.low (ones-above num den most h))

pub meets-below : (i : Ends) (num den least : ℕ)
    → 0 < den → Encloses i (pos num) den → least * den ≤ num → pos (least * fine) ≤ℤ i.hi
meets-below i num den least some e h = le_of_mul_pos (pos (least * fine)) i.hi den some (le_trans
    (pos (least * fine) *ℤ pos den) (pos num *ℤ pos fine) (i.hi *ℤ pos den) (ones-below num den least h) e.high)
