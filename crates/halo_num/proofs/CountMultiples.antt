-- The multiple of an interval by a count, which leaves its ends in order.
use Rattle.std.proofs.Common.{◌≡◌, ℕ, ◌^◌, ◌<◌, ℤ, pos, ◌*ℤ◌, ◌≤ℤ◌, arith, w64, to_z}
use Rattle.std.proofs.lemmas.Int.{ints, clamps}
use Rattle.std.specs.Int.{int_min, int_max}
use Rattle.halo_sums.proofs.Integers.{mul_le_pos}

-- a count below 2^63 is the same number with a sign
pub signed-count : (count : ℕ) → count < 2 ^ 63 → to_z w64 count ≡ pos count
signed-count count small = omega (arith, ints)

-- the lesser of two multiples is that of the lower end, and the greater is that of the upper end
pub least-multiple : (lo hi : ℤ) (count : ℕ) → lo ≤ℤ hi → int_min (lo *ℤ pos count) (hi *ℤ pos count) ≡ lo *ℤ pos count
least-multiple lo hi count order = let kept = mul_le_pos lo hi count order in omega (arith, ints, clamps)

pub greatest-multiple : (lo hi : ℤ) (count : ℕ) → lo ≤ℤ hi
    → int_max (lo *ℤ pos count) (hi *ℤ pos count) ≡ hi *ℤ pos count
greatest-multiple lo hi count order = let kept = mul_le_pos lo hi count order in omega (arith, ints, clamps)

-- a multiple of what is not below 0 is not below 0
pub multiple-from : (z : ℤ) (count : ℕ) → pos 0 ≤ℤ z → pos 0 ≤ℤ (z *ℤ pos count)
multiple-from z count from = let kept = mul_le_pos (pos 0) z count from in omega (arith, ints)
