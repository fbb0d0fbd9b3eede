-- Products of ends that are not negative: what they enclose, how wide they are.
use Rattle.std.proofs.Common.{ℕ, ◌+◌, ◌*◌, ◌^◌, ◌<◌, ◌≤◌, ℤ, pos, negsuc, ◌*ℤ◌, ◌≤ℤ◌, arith}
use Rattle.std.proofs.lemmas.Int.{ints}
use Rattle.std.proofs.lemmas.Nat.{mul-le}
use Rattle.std.proofs.Math.Nat.{mul-le-mul_right, le_of_mul-le-mul_right}
use Rattle.halo_num.specs.Ends.{Ends, fine}
use Rattle.halo_num.specs.Rounding.{IsFloor, IsCeiling}
use Rattle.halo_num.specs.Enclosure.{Encloses}
use Rattle.halo_num.proofs.Enclosures.{not_negative}

-- the lower end of a product, over naturals
product_low : (r a b n m d e : ℕ) → r * 10 ^ 18 ≤ a * b → a * d ≤ n * 10 ^ 18 → b * e ≤ m * 10 ^ 18
    → r * (d * e) ≤ n * m * 10 ^ 18
product_low r a b n m d e h p q =
    let s : (a * d) * (b * e) ≤ (n * 10 ^ 18) * (m * 10 ^ 18) = mul-le (a * d) (b * e) (n * 10 ^ 18) (m * 10 ^ 18) p q
    in let t : (r * 10 ^ 18) * (d * e) ≤ (a * b) * (d * e) = mul-le-mul_right (d * e) h
    in let u : r * (d * e) * 10 ^ 18 ≤ n * m * 10 ^ 18 * 10 ^ 18 = omega arith
    in le_of_mul-le-mul_right u (omega arith)

-- the upper end of a product, over naturals
product_high : (r a b n m d e : ℕ) → a * b ≤ r * 10 ^ 18 → n * 10 ^ 18 ≤ a * d → m * 10 ^ 18 ≤ b * e
    → n * m * 10 ^ 18 ≤ r * (d * e)
product_high r a b n m d e h p q =
    let s : (n * 10 ^ 18) * (m * 10 ^ 18) ≤ (a * d) * (b * e) = mul-le (n * 10 ^ 18) (m * 10 ^ 18) (a * d) (b * e) p q
    in let t : (a * b) * (d * e) ≤ (r * 10 ^ 18) * (d * e) = mul-le-mul_right (d * e) h
    in let u : n * m * 10 ^ 18 * 10 ^ 18 ≤ r * (d * e) * 10 ^ 18 = omega arith
    in le_of_mul-le-mul_right u (omega arith)

-- a product rounded down is below the product of the fractions
pub mul_low : (r a b n m : ℤ) (d e : ℕ) → pos 0 ≤ℤ r → pos 0 ≤ℤ a → pos 0 ≤ℤ b → (r *ℤ pos fine) ≤ℤ (a *ℤ b)
    → (a *ℤ pos d) ≤ℤ (n *ℤ pos fine) → (b *ℤ pos e) ≤ℤ (m *ℤ pos fine) → (r *ℤ pos (d * e)) ≤ℤ (n *ℤ m *ℤ pos fine)
mul_low (pos r) (pos a) (pos b) (pos n) (pos m) d e x y z h p q =
    let k = product_low r a b n m d e (omega (arith, ints)) (omega (arith, ints)) (omega (arith, ints))
    in omega (arith, ints)
mul_low (negsuc r) a b n m d e x y z h p q = absurd (omega (arith, ints))
mul_low r (negsuc a) b n m d e x y z h p q = absurd (omega (arith, ints))
mul_low r a (negsuc b) n m d e x y z h p q = absurd (omega (arith, ints))
mul_low r (pos a) b (negsuc n) m d e x y z h p q = absurd (omega (arith, ints))
mul_low r a (pos b) n (negsuc m) d e x y z h p q = absurd (omega (arith, ints))

-- a product rounded up is above the product of the fractions
pub mul_high : (r a b n m : ℤ) (d e : ℕ) → pos 0 ≤ℤ r → pos 0 ≤ℤ a → pos 0 ≤ℤ b → pos 0 ≤ℤ n → pos 0 ≤ℤ m
    → (a *ℤ b) ≤ℤ (r *ℤ pos fine) → (n *ℤ pos fine) ≤ℤ (a *ℤ pos d) → (m *ℤ pos fine) ≤ℤ (b *ℤ pos e)
    → (n *ℤ m *ℤ pos fine) ≤ℤ (r *ℤ pos (d * e))
mul_high (pos r) (pos a) (pos b) (pos n) (pos m) d e x y z v w h p q =
    let k = product_high r a b n m d e (omega (arith, ints)) (omega (arith, ints)) (omega (arith, ints))
    in omega (arith, ints)
mul_high (negsuc r) a b n m d e x y z v w h p q = absurd (omega (arith, ints))
mul_high r (negsuc a) b n m d e x y z v w h p q = absurd (omega (arith, ints))
mul_high r a (negsuc b) n m d e x y z v w h p q = absurd (omega (arith, ints))
mul_high r a b (negsuc n) m d e x y z v w h p q = absurd (omega (arith, ints))
mul_high r a b n (negsuc m) d e x y z v w h p q = absurd (omega (arith, ints))

-- a product of fractions that are not negative
pub encloses_mul : (a b r : Ends) (n m : ℤ) (d e : ℕ) → pos 0 ≤ℤ a.lo → pos 0 ≤ℤ b.lo → a.lo ≤ℤ a.hi → b.lo ≤ℤ b.hi
    → pos 0 ≤ℤ r.lo → pos 0 ≤ℤ r.hi → IsFloor r.lo (a.lo *ℤ b.lo) (pos fine) → IsCeiling r.hi (a.hi *ℤ b.hi) (pos fine)
    → Encloses a n d → Encloses b m e → Encloses r (n *ℤ m) (d * e)
encloses_mul a b r n m d e al bl ah bh rl rh f c p q =
    record {
      low = mul_low r.lo a.lo b.lo n m d e rl al bl f.reached p.low q.low;
      high =
          mul_high r.hi a.hi b.hi n m d e rh (omega (arith, ints)) (omega (arith, ints))
          (not_negative a.lo n d al p.low) (not_negative b.lo m e bl q.low) c.reached p.high q.high;
    }

-- how great a product of factors of at most a and b ones is, over naturals
bounded_nat : (hi ah bh a b : ℕ) → hi * 10 ^ 18 < ah * bh + 10 ^ 18 → ah ≤ a * 10 ^ 18 → bh ≤ b * 10 ^ 18
    → hi ≤ a * b * 10 ^ 18
bounded_nat hi ah bh a b q i j =
    let m : ah * bh ≤ a * 10 ^ 18 * (b * 10 ^ 18) = mul-le ah bh (a * 10 ^ 18) (b * 10 ^ 18) i j in omega arith

-- a product of factors of at most a and b ones is at most the product of a and b
pub bounded_mul : (hi ah bh : ℤ) (a b : ℕ) → pos 0 ≤ℤ hi → pos 0 ≤ℤ ah → pos 0 ≤ℤ bh → ah ≤ℤ pos (a * fine)
    → bh ≤ℤ pos (b * fine) → IsCeiling hi (ah *ℤ bh) (pos fine) → hi ≤ℤ pos (a * b * fine)
bounded_mul (pos hi) (pos ah) (pos bh) a b i1 i4 i5 i6 i7 c =
    let k = bounded_nat hi ah bh a b (omega (arith, ints, c.nearest)) (omega (arith, ints)) (omega (arith, ints))
    in omega (arith, ints)
bounded_mul (negsuc hi) ah bh a b i1 i4 i5 i6 i7 c = absurd (omega (arith, ints))
bounded_mul hi (negsuc ah) bh a b i1 i4 i5 i6 i7 c = absurd (omega (arith, ints))
bounded_mul hi ah (negsuc bh) a b i1 i4 i5 i6 i7 c = absurd (omega (arith, ints))
