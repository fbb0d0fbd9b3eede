-- A ratio of a number to itself is exactly 1.
use Rattle.std.proofs.Common.{◌≡◌, ℕ, suc, ◌*◌, ◌<◌, ◌≤◌, ℤ, pos, negsuc, arith, ap}
use Rattle.std.proofs.lemmas.Int.{ints}
use Rattle.std.proofs.Math.Nat.{le_of_mul-le-mul_right}
use Rattle.halo_sums.proofs.Integers.{lt_of_mul_lt}
use Rattle.halo_num.specs.Ends.{Ends, fine}
use Rattle.halo_num.specs.Rounding.{IsFloor, IsCeiling}

floor-whole : (r : ℤ) (n : ℕ) → 1 ≤ n → IsFloor r (pos (n * fine)) (pos n) → r ≡ pos fine
floor-whole (pos a) n some f =
    let above : a * n ≤ fine * n = omega (arith, ints, f.reached) in
    let below : fine * n < suc a * n = omega (arith, ints, f.nearest) in
    let low : a ≤ fine = le_of_mul-le-mul_right above some in
    let high = lt_of_mul_lt fine (suc a) n below in
    ap pos (omega (arith, low, high))
floor-whole (negsuc a) n some f = absurd (omega (arith, ints, f.nearest))

ceiling-whole : (r : ℤ) (n : ℕ) → 1 ≤ n → IsCeiling r (pos (n * fine)) (pos n) → r ≡ pos fine
ceiling-whole (pos a) n some f =
    let above : fine * n ≤ a * n = omega (arith, ints, f.reached) in
    let below : a * n < suc fine * n = omega (arith, ints, f.nearest) in
    let low : fine ≤ a = le_of_mul-le-mul_right above some in
    let high = lt_of_mul_lt a (suc fine) n below in
    ap pos (omega (arith, low, high))
ceiling-whole (negsuc a) n some f = absurd (omega (arith, ints, f.reached))

pub whole-ratio : (i : Ends) (m n : ℕ) → m ≡ n → 1 ≤ n → IsFloor i.lo (pos (m * fine)) (pos n)
    → IsCeiling i.hi (pos (m * fine)) (pos n) → i ≡ record { lo = pos fine; hi = pos fine }
whole-ratio i m n e some f c =
    let low = floor-whole i.lo n some (rw e at f) in
    let high = ceiling-whole i.hi n some (rw e at c) in
    rw (low, high)
