-- A total and one pay more.
use Rattle.std.proofs.Common.{◌≡◌, ℕ, ◌+◌, ◌*◌, ℤ, pos, ◌+ℤ◌, ◌*ℤ◌, ◌≤ℤ◌, arith}
use Rattle.std.proofs.lemmas.Int.{ints}
use Rattle.halo_num.specs.Ends.{fine}
use Rattle.halo_sums.proofs.Integers.{mul_le_pos}

-- the ones of a sum and of a multiple more
pub total-bound : (sum value : ℤ) (k a b : ℕ) → sum ≤ℤ pos (a * fine) → value ≤ℤ pos (b * fine)
    → (sum +ℤ value *ℤ pos k) ≤ℤ pos ((a + b * k) * fine)
total-bound sum value k a b p q =
    let more : (value *ℤ pos k) ≤ℤ pos (b * fine * k) = mul_le_pos value (pos (b * fine)) k q in
    let together : a * fine + b * fine * k ≡ (a + b * k) * fine = omega arith in
    rw (← together) (omega (arith, ints))
