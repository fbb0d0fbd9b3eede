-- A choice by a chance.
use Rattle.std.proofs.Common.{◌≡◌, ℕ, ◌+◌, ◌*◌, ◌-◌, ◌^◌, ◌<◌, ◌≤◌, ℤ, pos, negsuc, ◌+ℤ◌, ◌-ℤ◌, ◌*ℤ◌, ◌≤ℤ◌, arith, subst, ap, refl, lit<, ⊎_elim}
use Rattle.std.proofs.lemmas.Bool.{cases_lt}
use Rattle.std.proofs.lemmas.Int.{ints}
use Rattle.std.specs.Int.{int_min, int_max}
use Rattle.std.proofs.Math.Nat.{mul-le-mul_right, le_of_mul-le-mul_right}
use borrow.Author.Differences.{same_in}
use Rattle.halo_num.specs.Ends.{Ends, fine, IsWithin}
use Rattle.halo_num.specs.Rounding.{IsFloor, IsCeiling}
use Rattle.halo_num.specs.Enclosure.{Encloses}
use Rattle.halo_num.specs.Blend.{blend}
use Rattle.halo_num.proofs.Rounded.{ordered}
use Rattle.halo_num.proofs.Multiples.{least_of, greatest_of}
use Rattle.halo_sums.proofs.Integers.{mul_le_mul, le_trans}

-- two naturals by which is greater
pub by_order : {P : Type 0} (a b : ℕ) → ((c : ℕ) → a ≡ b + c → P) → ((c : ℕ) → b ≡ a + c → P) → P
by_order a b f g =
    ⊎_elim (λ (h : a < b). g (b - a) (omega arith)) (λ (h : b ≤ a). f (a - b) (omega arith)) (cases_lt a b)

-- the other side of a chance
blend_rest : (ph qh s t d u : ℕ) → ph + qh ≡ u → s + t ≡ d → s * u ≤ ph * d → qh * d ≤ t * u
blend_rest ph qh s t d u j k q =
    let o : (ph + qh) * d ≡ u * d = ap (λ (z : ℕ). z * d) j
    in let v : (s + t) * u ≡ d * u = ap (λ (z : ℕ). z * u) k
    in omega arith

-- the other side of a chance, from below
rest_blend : (pl ql s t d u : ℕ) → pl + ql ≡ u → s + t ≡ d → pl * d ≤ s * u → t * u ≤ ql * d
rest_blend pl ql s t d u j k q =
    let o : (pl + ql) * d ≡ u * d = ap (λ (z : ℕ). z * d) j
    in let v : (s + t) * u ≡ d * u = ap (λ (z : ℕ). z * u) k
    in omega arith

-- where the value of the chance is the greater, its lower end gives the least blend
blend_low_above : (r pl ql b c s t d u : ℕ) → 0 < u → pl + ql ≡ u → s + t ≡ d → r * u ≤ pl * (b + c) + ql * b
    → pl * d ≤ s * u → r * d ≤ s * (b + c) + t * b
blend_low_above r pl ql b c s t d u l i k g p =
    let m : (r * u) * d ≤ (pl * (b + c) + ql * b) * d = mul-le-mul_right d g
    in let n : (pl * d) * c ≤ (s * u) * c = mul-le-mul_right c p
    in let o : (pl + ql) * (b * d) ≡ u * (b * d) = ap (λ (z : ℕ). z * (b * d)) i
    in let q : (s + t) * (b * u) ≡ d * (b * u) = ap (λ (z : ℕ). z * (b * u)) k
    in let v : r * d * u ≤ (s * (b + c) + t * b) * u = omega arith
    in le_of_mul-le-mul_right v l

-- a number below the blends at both ends of a chance is below the blend at it
blend_low : (r pl ql ph qh a b s t d u : ℕ) → 0 < u → pl + ql ≡ u → ph + qh ≡ u → s + t ≡ d → r * u ≤ pl * a + ql * b
    → r * u ≤ ph * a + qh * b → pl * d ≤ s * u → s * u ≤ ph * d → r * d ≤ s * a + t * b
blend_low r pl ql ph qh a b s t d u l i j k g h p q =
    by_order a b
    (λ (c : ℕ) (e : a ≡ b + c). rw e (blend_low_above r pl ql b c s t d u l i k (rw e at g) p))
    (λ (c : ℕ) (e : b ≡ a + c).
    let x : r * d ≤ t * (a + c) + s * a =
    blend_low_above r qh ph a c t s d u l (omega arith) (omega arith)
    (let y : r * u ≤ ph * a + qh * (a + c) = rw e at h in omega arith) (blend_rest ph qh s t d u j k q)
    in rw e (omega arith))

-- the lower end of a choice, over naturals
mix_low_nat : (r pl ql ph qh a b s t x y d e f u : ℕ) → 0 < u → pl + ql ≡ u → ph + qh ≡ u → s + t ≡ d
    → r * u ≤ pl * a + ql * b → r * u ≤ ph * a + qh * b → pl * d ≤ s * u → s * u ≤ ph * d → a * e ≤ x * u
    → b * f ≤ y * u → r * (d * e * f) ≤ (s * x * f + t * y * e) * u
mix_low_nat r pl ql ph qh a b s t x y d e f u l i j k g h p q v w =
    let step : r * d ≤ s * a + t * b = blend_low r pl ql ph qh a b s t d u l i j k g h p q
    in let m : (r * d) * (e * f) ≤ (s * a + t * b) * (e * f) = mul-le-mul_right (e * f) step
    in let n : (a * e) * (s * f) ≤ (x * u) * (s * f) = mul-le-mul_right (s * f) v
    in let o : (b * f) * (t * e) ≤ (y * u) * (t * e) = mul-le-mul_right (t * e) w
    in omega arith

-- where the value of the chance is the greater, its upper end gives the greatest blend
blend_high_above : (r ph qh b c s t d u : ℕ) → 0 < u → ph + qh ≡ u → s + t ≡ d → ph * (b + c) + qh * b ≤ r * u
    → s * u ≤ ph * d → s * (b + c) + t * b ≤ r * d
blend_high_above r ph qh b c s t d u l i k g p =
    let m : (ph * (b + c) + qh * b) * d ≤ (r * u) * d = mul-le-mul_right d g
    in let n : (s * u) * c ≤ (ph * d) * c = mul-le-mul_right c p
    in let o : (ph + qh) * (b * d) ≡ u * (b * d) = ap (λ (z : ℕ). z * (b * d)) i
    in let q : (s + t) * (b * u) ≡ d * (b * u) = ap (λ (z : ℕ). z * (b * u)) k
    in let v : (s * (b + c) + t * b) * u ≤ r * d * u = omega arith
    in le_of_mul-le-mul_right v l

-- a number above the blends at both ends of a chance is above the blend at it
blend_high : (r pl ql ph qh a b s t d u : ℕ) → 0 < u → pl + ql ≡ u → ph + qh ≡ u → s + t ≡ d → pl * a + ql * b ≤ r * u
    → ph * a + qh * b ≤ r * u → pl * d ≤ s * u → s * u ≤ ph * d → s * a + t * b ≤ r * d
blend_high r pl ql ph qh a b s t d u l i j k g h p q =
    by_order a b
    (λ (c : ℕ) (e : a ≡ b + c). rw e (blend_high_above r ph qh b c s t d u l j k (rw e at h) q))
    (λ (c : ℕ) (e : b ≡ a + c).
    let x : t * (a + c) + s * a ≤ r * d =
    blend_high_above r ql pl a c t s d u l (omega arith) (omega arith)
    (let y : pl * a + ql * (a + c) ≤ r * u = rw e at g in omega arith) (rest_blend pl ql s t d u i k p)
    in rw e (omega arith))

-- the upper end of a choice, over naturals
mix_high_nat : (r pl ql ph qh a b s t x y d e f u : ℕ) → 0 < u → pl + ql ≡ u → ph + qh ≡ u → s + t ≡ d
    → pl * a + ql * b ≤ r * u → ph * a + qh * b ≤ r * u → pl * d ≤ s * u → s * u ≤ ph * d → x * u ≤ a * e
    → y * u ≤ b * f → (s * x * f + t * y * e) * u ≤ r * (d * e * f)
mix_high_nat r pl ql ph qh a b s t x y d e f u l i j k g h p q v w =
    let step : s * a + t * b ≤ r * d = blend_high r pl ql ph qh a b s t d u l i j k g h p q
    in let m : (s * a + t * b) * (e * f) ≤ (r * d) * (e * f) = mul-le-mul_right (e * f) step
    in let n : (x * u) * (s * f) ≤ (a * e) * (s * f) = mul-le-mul_right (s * f) v
    in let o : (y * u) * (t * e) ≤ (b * f) * (t * e) = mul-le-mul_right (t * e) w
    in omega arith

-- a blend of naturals
pub blend_pos : (s x y : ℕ) → s ≤ fine → blend (pos s) (pos x) (pos y) ≡ pos (s * x + (fine - s) * y)
blend_pos s x y h =
    let e : pos fine -ℤ pos s ≡ pos (fine - s) = same_in (pos fine -ℤ pos s) (pos (fine - s)) (omega (arith, ints))
    in rw e refl

-- a chance within 1 has a numerator that is at most its denominator
chance_proper : (p s d : ℕ) → p ≤ 10 ^ 18 → s * 10 ^ 18 ≤ p * d → s ≤ d
chance_proper p s d h q = let k : p * d ≤ 10 ^ 18 * d = mul-le-mul_right d h in omega arith

-- a choice rounded down is below the expected value
pub mix_low : (r pl ph a b : ℤ) (s x y d e f : ℕ) → pos 0 ≤ℤ r → pos 0 ≤ℤ pl → pos 0 ≤ℤ ph → pos 0 ≤ℤ a → pos 0 ≤ℤ b
    → pl ≤ℤ pos fine → ph ≤ℤ pos fine → (r *ℤ pos fine) ≤ℤ int_min (blend pl a b) (blend ph a b)
    → (pl *ℤ pos d) ≤ℤ (pos s *ℤ pos fine) → (pos s *ℤ pos fine) ≤ℤ (ph *ℤ pos d) → (a *ℤ pos e) ≤ℤ (pos x *ℤ pos fine)
    → (b *ℤ pos f) ≤ℤ (pos y *ℤ pos fine) → (r *ℤ pos (d * e * f)) ≤ℤ (pos (s * x * f + (d - s) * y * e) *ℤ pos fine)
mix_low (pos r) (pos pl) (pos ph) (pos a) (pos b) s x y d e f i0 i1 i2 i3 i4 j k h p q v w =
    let jl : pl ≤ fine = omega (arith, ints)
    in let kl : ph ≤ fine = omega (arith, ints)
    in let z : s ≤ d = chance_proper ph s d kl (omega (arith, ints))
    in let m = least_of (blend (pos pl) (pos a) (pos b)) (blend (pos ph) (pos a) (pos b))
    in let g : pos (r * fine) ≤ℤ blend (pos pl) (pos a) (pos b) =
    le_trans (pos (r * fine)) (int_min (blend (pos pl) (pos a) (pos b)) (blend (pos ph) (pos a) (pos b)))
    (blend (pos pl) (pos a) (pos b)) h m.0
    in let g2 : pos (r * fine) ≤ℤ blend (pos ph) (pos a) (pos b) =
    le_trans (pos (r * fine)) (int_min (blend (pos pl) (pos a) (pos b)) (blend (pos ph) (pos a) (pos b)))
    (blend (pos ph) (pos a) (pos b)) h m.1
    in let P : ℤ → Type 0 = λ t. pos (r * fine) ≤ℤ t
    in let o : pos (r * fine) ≤ℤ pos (pl * a + (fine - pl) * b) = subst P (blend_pos pl a b jl) g
    in let o2 : pos (r * fine) ≤ℤ pos (ph * a + (fine - ph) * b) = subst P (blend_pos ph a b kl) g2
    in let n =
    mix_low_nat r pl (fine - pl) ph (fine - ph) a b s (d - s) x y d e f fine (lit< tt) (omega arith) (omega arith)
    (omega arith) (omega (arith, ints)) (omega (arith, ints)) (omega (arith, ints)) (omega (arith, ints))
    (omega (arith, ints)) (omega (arith, ints))
    in omega (arith, ints)
mix_low (negsuc r) pl ph a b s x y d e f i0 i1 i2 i3 i4 j k h p q v w = absurd (omega (arith, ints))
mix_low r (negsuc pl) ph a b s x y d e f i0 i1 i2 i3 i4 j k h p q v w = absurd (omega (arith, ints))
mix_low r pl (negsuc ph) a b s x y d e f i0 i1 i2 i3 i4 j k h p q v w = absurd (omega (arith, ints))
mix_low r pl ph (negsuc a) b s x y d e f i0 i1 i2 i3 i4 j k h p q v w = absurd (omega (arith, ints))
mix_low r pl ph a (negsuc b) s x y d e f i0 i1 i2 i3 i4 j k h p q v w = absurd (omega (arith, ints))

-- a choice rounded up is above the expected value
pub mix_high : (r pl ph a b : ℤ) (s x y d e f : ℕ) → pos 0 ≤ℤ r → pos 0 ≤ℤ pl → pos 0 ≤ℤ ph → pos 0 ≤ℤ a → pos 0 ≤ℤ b
    → pl ≤ℤ pos fine → ph ≤ℤ pos fine → int_max (blend pl a b) (blend ph a b) ≤ℤ (r *ℤ pos fine)
    → (pl *ℤ pos d) ≤ℤ (pos s *ℤ pos fine) → (pos s *ℤ pos fine) ≤ℤ (ph *ℤ pos d) → (pos x *ℤ pos fine) ≤ℤ (a *ℤ pos e)
    → (pos y *ℤ pos fine) ≤ℤ (b *ℤ pos f) → (pos (s * x * f + (d - s) * y * e) *ℤ pos fine) ≤ℤ (r *ℤ pos (d * e * f))
mix_high (pos r) (pos pl) (pos ph) (pos a) (pos b) s x y d e f i0 i1 i2 i3 i4 j k h p q v w =
    let jl : pl ≤ fine = omega (arith, ints)
    in let kl : ph ≤ fine = omega (arith, ints)
    in let z : s ≤ d = chance_proper ph s d kl (omega (arith, ints))
    in let m = greatest_of (blend (pos pl) (pos a) (pos b)) (blend (pos ph) (pos a) (pos b))
    in let g : blend (pos pl) (pos a) (pos b) ≤ℤ pos (r * fine) =
    le_trans (blend (pos pl) (pos a) (pos b))
    (int_max (blend (pos pl) (pos a) (pos b)) (blend (pos ph) (pos a) (pos b))) (pos (r * fine)) m.0 h
    in let g2 : blend (pos ph) (pos a) (pos b) ≤ℤ pos (r * fine) =
    le_trans (blend (pos ph) (pos a) (pos b))
    (int_max (blend (pos pl) (pos a) (pos b)) (blend (pos ph) (pos a) (pos b))) (pos (r * fine)) m.1 h
    in let P : ℤ → Type 0 = λ t. t ≤ℤ pos (r * fine)
    in let o : pos (pl * a + (fine - pl) * b) ≤ℤ pos (r * fine) = subst P (blend_pos pl a b jl) g
    in let o2 : pos (ph * a + (fine - ph) * b) ≤ℤ pos (r * fine) = subst P (blend_pos ph a b kl) g2
    in let n =
    mix_high_nat r pl (fine - pl) ph (fine - ph) a b s (d - s) x y d e f fine (lit< tt) (omega arith) (omega arith)
    (omega arith) (omega (arith, ints)) (omega (arith, ints)) (omega (arith, ints)) (omega (arith, ints))
    (omega (arith, ints)) (omega (arith, ints))
    in omega (arith, ints)
mix_high (negsuc r) pl ph a b s x y d e f i0 i1 i2 i3 i4 j k h p q v w = absurd (omega (arith, ints))
mix_high r (negsuc pl) ph a b s x y d e f i0 i1 i2 i3 i4 j k h p q v w = absurd (omega (arith, ints))
mix_high r pl (negsuc ph) a b s x y d e f i0 i1 i2 i3 i4 j k h p q v w = absurd (omega (arith, ints))
mix_high r pl ph (negsuc a) b s x y d e f i0 i1 i2 i3 i4 j k h p q v w = absurd (omega (arith, ints))
mix_high r pl ph a (negsuc b) s x y d e f i0 i1 i2 i3 i4 j k h p q v w = absurd (omega (arith, ints))

-- a choice by a chance
pub encloses_mix : (p a b r : Ends) (s x y d e f : ℕ) → IsWithin p (pos 0) (pos fine) → p.lo ≤ℤ p.hi → pos 0 ≤ℤ a.lo
    → a.lo ≤ℤ a.hi → pos 0 ≤ℤ b.lo → b.lo ≤ℤ b.hi → pos 0 ≤ℤ r.lo → pos 0 ≤ℤ r.hi
    → IsFloor r.lo (int_min (blend p.lo a.lo b.lo) (blend p.hi a.lo b.lo)) (pos fine)
    → IsCeiling r.hi (int_max (blend p.lo a.hi b.hi) (blend p.hi a.hi b.hi)) (pos fine) → Encloses p (pos s) d
    → Encloses a (pos x) e → Encloses b (pos y) f → Encloses r (pos (s * x * f + (d - s) * y * e)) (d * e * f)
encloses_mix p a b r s x y d e f pw po al ao bl bo rl rh fl ce ep ea eb =
    let ph : pos 0 ≤ℤ p.hi = le_trans (pos 0) p.lo p.hi pw.low po
    in let pl : p.lo ≤ℤ pos fine = le_trans p.lo p.hi (pos fine) po pw.high
    in record {
      low =
          mix_low r.lo p.lo p.hi a.lo b.lo s x y d e f rl pw.low ph al bl pl pw.high fl.reached ep.low ep.high ea.low
          eb.low;
      high =
          mix_high r.hi p.lo p.hi a.hi b.hi s x y d e f rh pw.low ph (le_trans (pos 0) a.lo a.hi al ao)
          (le_trans (pos 0) b.lo b.hi bl bo) pl pw.high ce.reached ep.low ep.high ea.high eb.high;
    }

-- sums keep an order
sum_mono : (a b c d : ℤ) → a ≤ℤ c → b ≤ℤ d → (a +ℤ b) ≤ℤ (c +ℤ d)
sum_mono a b c d p q = omega (arith, ints)

-- a blend goes up in its values
pub blend_mono : (s x y v w : ℤ) → pos 0 ≤ℤ s → s ≤ℤ pos fine → pos 0 ≤ℤ x → pos 0 ≤ℤ y → x ≤ℤ v → y ≤ℤ w
    → blend s x y ≤ℤ blend s v w
blend_mono s x y v w i j k l p q =
    let r : pos 0 ≤ℤ (pos fine -ℤ s) = omega (arith, ints)
    in let t = pos fine -ℤ s
    in let m = mul_le_mul s x s v i k (omega (arith, ints)) p
    in let n = mul_le_mul t y t w r l (omega (arith, ints)) q
    in sum_mono (s *ℤ x) (t *ℤ y) (s *ℤ v) (t *ℤ w) m n

-- the least blend is at most the greatest
pub mix_ordered : (p a b : Ends) (r s : ℤ) → IsWithin p (pos 0) (pos fine) → p.lo ≤ℤ p.hi → pos 0 ≤ℤ a.lo → a.lo ≤ℤ a.hi
    → pos 0 ≤ℤ b.lo → b.lo ≤ℤ b.hi → IsFloor r (int_min (blend p.lo a.lo b.lo) (blend p.hi a.lo b.lo)) (pos fine)
    → IsCeiling s (int_max (blend p.lo a.hi b.hi) (blend p.hi a.hi b.hi)) (pos fine) → r ≤ℤ s
mix_ordered p a b r s pw po al ao bl bo f c =
    let x = blend p.lo a.lo b.lo
    in let y = blend p.hi a.lo b.lo
    in let v = blend p.lo a.hi b.hi
    in let w = blend p.hi a.hi b.hi
    in let m = blend_mono p.lo a.lo b.lo a.hi b.hi pw.low (le_trans p.lo p.hi (pos fine) po pw.high) al bl ao bo
    in ordered r s (int_min x y) (int_max v w) fine (lit< tt) f c
    (le_trans (int_min x y) x (int_max v w) (least_of x y).0 (le_trans x v (int_max v w) m (greatest_of v w).0))
