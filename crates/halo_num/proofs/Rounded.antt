-- Floors and ceilings.
use Rattle.std.proofs.Common.{◌≡◌, ℕ, ◌*◌, ◌<◌, ℤ, pos, ◌+ℤ◌, ◌*ℤ◌, ◌≤ℤ◌, ◌<ℤ◌, arith, mul_comm, lit<}
use Rattle.std.proofs.lemmas.Int.{ints, by_lt_z}
use Rattle.halo_num.specs.Ends.{Ends, printed}
use Rattle.halo_num.specs.Rounding.{IsFloor, IsCeiling}
use Rattle.halo_num.specs.Enclosure.{Encloses, EnclosesPrinted}
use Rattle.halo_sums.proofs.Integers.{add_mul, mul-pos-pos, mul_le_pos, le_of_mul_pos}

-- a floor is at most a ceiling of no less
pub ordered : (r s z w : ℤ) (d : ℕ) → 0 < d → IsFloor r z (pos d) → IsCeiling s w (pos d) → z ≤ℤ w → r ≤ℤ s
ordered r s z w d h f c o =
    let p = f.reached
    in let q = c.reached
    in le_of_mul_pos r s d h (omega (arith, ints))

-- a floor and a ceiling of one number differ by at most 1
pub floor_ceiling : (r s z : ℤ) (d : ℕ) → 0 < d → IsFloor r z (pos d) → IsCeiling s z (pos d) → s ≤ℤ (r +ℤ pos 1)
floor_ceiling r s z d h f c =
    by_lt_z (r +ℤ pos 1) s
    (λ (l : (r +ℤ pos 1) <ℤ s).
    let t = mul_le_pos (r +ℤ pos 2) s d (omega (arith, ints))
    in let u : ((r *ℤ pos d) +ℤ pos (2 * d)) ≤ℤ (s *ℤ pos d) = rw (add_mul r (pos 2) (pos d)) at t
    in absurd (omega (arith, ints, f.nearest, c.nearest)))
    (λ (l : s ≤ℤ (r +ℤ pos 1)). l)

-- a floor at an equal number
pub floor_at : (r z w d : ℤ) → IsFloor r z d → z ≡ w → IsFloor r w d
floor_at r z w d f e = rw (← e) f

-- a ceiling at an equal number
pub ceiling_at : (r z w d : ℤ) → IsCeiling r z d → z ≡ w → IsCeiling r w d
ceiling_at r z w d f e = rw (← e) f

-- ends in printed units enclose what the ends in fine units do
pub printed_encloses : (a : Ends) (l h n : ℤ) (d : ℕ) → IsFloor l a.lo (pos printed) → IsCeiling h a.hi (pos printed)
    → Encloses a n d → EnclosesPrinted l h n d
printed_encloses a l h n d f c p =
    let s = mul_le_pos (l *ℤ pos printed) a.lo d f.reached
    in let t = mul_le_pos a.hi (h *ℤ pos printed) d c.reached
    in let u = mul-pos-pos l printed d
    in let v = mul-pos-pos l d printed
    in let w = mul-pos-pos h printed d
    in let x = mul-pos-pos h d printed
    in let y = mul-pos-pos n printed printed
    in let m = mul_comm printed d
    in record {
      low =
          le_of_mul_pos (l *ℤ pos d) (n *ℤ pos printed) printed (lit< tt)
          (rw (y, v, ← m, ← u) (omega (arith, ints, s, p.low)));
      high =
          le_of_mul_pos (n *ℤ pos printed) (h *ℤ pos d) printed (lit< tt)
          (rw (y, x, ← m, ← w) (omega (arith, ints, t, p.high)));
    }
