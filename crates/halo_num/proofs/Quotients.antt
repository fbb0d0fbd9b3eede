-- Quotients by ends that are not below 1.
use Rattle.std.proofs.Common.{ℕ, ◌+◌, ◌*◌, ◌<◌, ◌≤◌, ℤ, pos, negsuc, ◌*ℤ◌, ◌≤ℤ◌, arith, lit<}
use Rattle.std.proofs.lemmas.Int.{ints}
use Rattle.std.proofs.Math.Nat.{mul-le-mul_left, mul-le-mul_right, le_of_mul-le-mul_right}
use Rattle.halo_num.specs.Ends.{Ends, fine}
use Rattle.halo_num.specs.Rounding.{IsFloor, IsCeiling}
use Rattle.halo_num.specs.Enclosure.{Encloses}
use Rattle.halo_num.proofs.Enclosures.{not_negative}
use Rattle.halo_sums.proofs.Integers.{mul_le_mul, le_of_mul_pos, lt_of_mul_lt}

-- a quotient by more is at most a quotient by less
pub ordered_quotient : (r s z w c d : ℤ) → pos 0 ≤ℤ r → pos 1 ≤ℤ c → c ≤ℤ d → z ≤ℤ w → (r *ℤ d) ≤ℤ z → w ≤ℤ (s *ℤ c)
    → r ≤ℤ s
ordered_quotient r s z w (pos c) d x y o h p q =
    let e = mul_le_mul r (pos c) r d x (omega (arith, ints)) (omega (arith, ints)) o
    in le_of_mul_pos r s c (omega (arith, ints)) (omega (arith, ints))
ordered_quotient r s z w (negsuc c) d x y o h p q = absurd (omega (arith, ints))

-- the lower end of a quotient, over naturals
quotient_low_nat : (r a c n m d e u : ℕ) → 0 < u → r * c ≤ a * u → a * d ≤ n * u → m * u ≤ c * e
    → r * (d * m) ≤ n * e * u
quotient_low_nat r a c n m d e u l h p q =
    let s : (m * u) * (r * d) ≤ (c * e) * (r * d) = mul-le-mul_right (r * d) q
    in let t : (r * c) * (d * e) ≤ (a * u) * (d * e) = mul-le-mul_right (d * e) h
    in let v : (a * d) * (u * e) ≤ (n * u) * (u * e) = mul-le-mul_right (u * e) p
    in let w : r * (d * m) * u ≤ n * e * u * u = omega arith
    in le_of_mul-le-mul_right w l

-- the upper end of a quotient, over naturals
quotient_high_nat : (r a c n m d e u : ℕ) → 0 < u → a * u ≤ r * c → n * u ≤ a * d → c * e ≤ m * u
    → n * e * u ≤ r * (d * m)
quotient_high_nat r a c n m d e u l h p q =
    let s : (c * e) * (r * d) ≤ (m * u) * (r * d) = mul-le-mul_right (r * d) q
    in let t : (a * u) * (d * e) ≤ (r * c) * (d * e) = mul-le-mul_right (d * e) h
    in let v : (n * u) * (u * e) ≤ (a * d) * (u * e) = mul-le-mul_right (u * e) p
    in let w : n * e * u * u ≤ r * (d * m) * u = omega arith
    in le_of_mul-le-mul_right w l

-- a quotient rounded down is below the quotient of the fractions
pub quotient_low : (r a c n : ℤ) (m d e : ℕ) → pos 0 ≤ℤ r → pos 0 ≤ℤ a → pos 0 ≤ℤ c → (r *ℤ c) ≤ℤ (a *ℤ pos fine)
    → (a *ℤ pos d) ≤ℤ (n *ℤ pos fine) → (pos m *ℤ pos fine) ≤ℤ (c *ℤ pos e)
    → (r *ℤ pos (d * m)) ≤ℤ (n *ℤ pos e *ℤ pos fine)
quotient_low (pos r) (pos a) (pos c) (pos n) m d e x y z h p q =
    let k =
    quotient_low_nat r a c n m d e fine (lit< tt) (omega (arith, ints)) (omega (arith, ints)) (omega (arith, ints))
    in omega (arith, ints)
quotient_low (negsuc r) a c n m d e x y z h p q = absurd (omega (arith, ints))
quotient_low r (negsuc a) c n m d e x y z h p q = absurd (omega (arith, ints))
quotient_low r a (negsuc c) n m d e x y z h p q = absurd (omega (arith, ints))
quotient_low r (pos a) c (negsuc n) m d e x y z h p q = absurd (omega (arith, ints))

-- a quotient rounded up is above the quotient of the fractions
pub quotient_high : (r a c n : ℤ) (m d e : ℕ) → pos 0 ≤ℤ r → pos 0 ≤ℤ a → pos 0 ≤ℤ c → pos 0 ≤ℤ n
    → (a *ℤ pos fine) ≤ℤ (r *ℤ c) → (n *ℤ pos fine) ≤ℤ (a *ℤ pos d) → (c *ℤ pos e) ≤ℤ (pos m *ℤ pos fine)
    → (n *ℤ pos e *ℤ pos fine) ≤ℤ (r *ℤ pos (d * m))
quotient_high (pos r) (pos a) (pos c) (pos n) m d e x y z v h p q =
    let k =
    quotient_high_nat r a c n m d e fine (lit< tt) (omega (arith, ints)) (omega (arith, ints)) (omega (arith, ints))
    in omega (arith, ints)
quotient_high (negsuc r) a c n m d e x y z v h p q = absurd (omega (arith, ints))
quotient_high r (negsuc a) c n m d e x y z v h p q = absurd (omega (arith, ints))
quotient_high r a (negsuc c) n m d e x y z v h p q = absurd (omega (arith, ints))
quotient_high r a c (negsuc n) m d e x y z v h p q = absurd (omega (arith, ints))

-- a quotient of fractions
pub encloses_quotient : (a b r : Ends) (n : ℤ) (m d e : ℕ) → pos 0 ≤ℤ a.lo → a.lo ≤ℤ a.hi → pos fine ≤ℤ b.lo
    → b.lo ≤ℤ b.hi → pos 0 ≤ℤ r.lo → pos 0 ≤ℤ r.hi → IsFloor r.lo (a.lo *ℤ pos fine) b.hi
    → IsCeiling r.hi (a.hi *ℤ pos fine) b.lo → Encloses a n d → Encloses b (pos m) e → Encloses r (n *ℤ pos e) (d * m)
encloses_quotient a b r n m d e al ah bl bh rl rh f c p q =
    record {
      low = quotient_low r.lo a.lo b.hi n m d e rl al (omega (arith, ints)) f.reached p.low q.high;
      high =
          quotient_high r.hi a.hi b.lo n m d e rh (omega (arith, ints)) (omega (arith, ints))
          (not_negative a.lo n d al p.low) c.reached p.high q.low;
    }

-- how great a quotient by at least one is, over naturals
bounded_quotient_nat : (hi ah bl t u : ℕ) → hi * bl < ah * u + bl → u ≤ bl → ah ≤ t * u → hi ≤ t * u
bounded_quotient_nat hi ah bl t u p k m =
    let e : ah * u ≤ t * u * u = mul-le-mul_right u m
    in let f : t * u * u ≤ t * u * bl = mul-le-mul_left (t * u) k
    in let z : hi * bl < (t * u + 1) * bl = omega arith
    in let r : hi < t * u + 1 = lt_of_mul_lt hi (t * u + 1) bl z
    in omega arith

-- a quotient by at least one of at most t ones is at most t
pub bounded_quotient : (hi ah bl : ℤ) (t : ℕ) → pos 0 ≤ℤ hi → pos 0 ≤ℤ ah → pos fine ≤ℤ bl → ah ≤ℤ pos (t * fine)
    → IsCeiling hi (ah *ℤ pos fine) bl → hi ≤ℤ pos (t * fine)
bounded_quotient (pos hi) (pos ah) (pos bl) t i j k m c =
    let e =
    bounded_quotient_nat hi ah bl t fine (omega (arith, ints, c.nearest)) (omega (arith, ints))
    (omega (arith, ints))
    in omega (arith, ints)
bounded_quotient (negsuc hi) ah bl t i j k m c = absurd (omega (arith, ints))
bounded_quotient hi (negsuc ah) bl t i j k m c = absurd (omega (arith, ints))
bounded_quotient hi ah (negsuc bl) t i j k m c = absurd (omega (arith, ints))
