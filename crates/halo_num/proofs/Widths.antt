-- How wide sums, multiples, products and printed intervals are.
use Rattle.std.proofs.Common.{◌≡◌, ℕ, ◌+◌, ◌*◌, ◌^◌, ◌<◌, ◌≤◌, ℤ, pos, negsuc, ◌+ℤ◌, ◌-ℤ◌, ◌*ℤ◌, ◌≤ℤ◌, arith, suc, lit<}
use Rattle.std.proofs.lemmas.Nat.{mul-le}
use Rattle.std.proofs.lemmas.Int.{ints, clamps}
use Rattle.std.proofs.Math.Nat.{mul-le-mul_left, mul-le-mul_right}
use Rattle.std.specs.Int.{int_min, int_max}
use lib.IntN.{*ℤ-negsuc}
use Rattle.halo_num.specs.Ends.{Ends, fine, printed, printed_ceiling, HasWidth, IsSized}
use Rattle.halo_num.specs.Rounding.{IsFloor, IsCeiling}
use Rattle.halo_sums.proofs.Integers.{add_mul, mul_le_pos, lt_of_mul_lt}

-- a sum is as wide as its terms together
pub width_add : (a b r : Ends) (v w : ℕ) → r.lo ≡ a.lo +ℤ b.lo → r.hi ≡ a.hi +ℤ b.hi → HasWidth a v → HasWidth b w
    → HasWidth r (v + w)
width_add a b r v w e f p q = record { near = rw (e, f) (omega (arith, ints, p.near, q.near)) }

-- so is a difference
pub width_sub : (a b r : Ends) (v w : ℕ) → r.lo ≡ a.lo -ℤ b.hi → r.hi ≡ a.hi -ℤ b.lo → HasWidth a v → HasWidth b w
    → HasWidth r (v + w)
width_sub a b r v w e f p q = record { near = rw (e, f) (omega (arith, ints, p.near, q.near)) }

-- the ends times a natural stay in order, and so near
scaled_near : (l h : ℤ) (w j m : ℕ) → l ≤ℤ h → h ≤ℤ (l +ℤ pos w) → j ≤ m
    → ((l *ℤ pos j) ≤ℤ (h *ℤ pos j)) × ((h *ℤ pos j) ≤ℤ (l *ℤ pos j +ℤ pos (w * m)))
scaled_near l h w j m o p g =
    let s = mul_le_pos l h j o
    in let t : (h *ℤ pos j) ≤ℤ (l *ℤ pos j +ℤ pos (w * j)) =
    rw (add_mul l (pos w) (pos j)) at (mul_le_pos h (l +ℤ pos w) j p)
    in let u : w * j ≤ w * m = mul-le-mul_left w g
    in (s, omega (arith, ints))

-- a multiple is as many times wider
pub width_scale : (a r : Ends) (k : ℤ) (w m : ℕ) → r.lo ≡ int_min (a.lo *ℤ k) (a.hi *ℤ k)
    → r.hi ≡ int_max (a.lo *ℤ k) (a.hi *ℤ k) → a.lo ≤ℤ a.hi → HasWidth a w → IsSized k m → HasWidth r (w * m)
width_scale a r (pos j) w m e f o p g =
    let s = scaled_near a.lo a.hi w j m o p.near (omega (arith, ints, g.high))
    in record { near = rw (e, f) (omega (arith, ints, clamps, s.0, s.1)) }
width_scale a r (negsuc j) w m e f o p g =
    let s = scaled_near a.lo a.hi w (suc j) m o p.near (omega (arith, ints, g.low))
    in record { near = rw (e, f, *ℤ-negsuc a.lo j, *ℤ-negsuc a.hi j) (omega (arith, ints, clamps, s.0, s.1)) }

-- the width of a product of factors of at most a and b ones, over naturals
width_nat : (lo hi al ah bl bh v w a b : ℕ) → al * bl < lo * 10 ^ 18 + 10 ^ 18 → hi * 10 ^ 18 < ah * bh + 10 ^ 18
    → ah ≤ al + v → bh ≤ bl + w → ah ≤ a * 10 ^ 18 → bl ≤ b * 10 ^ 18 → hi ≤ lo + (v * b + w * a + 1)
width_nat lo hi al ah bl bh v w a b p q i j k l =
    let m : ah * bh ≤ ah * (bl + w) = mul-le-mul_left ah j
    in let n : ah * w ≤ a * 10 ^ 18 * w = mul-le-mul_right w k
    in let o : ah * bl ≤ (al + v) * bl = mul-le-mul_right bl i
    in let r : v * bl ≤ v * (b * 10 ^ 18) = mul-le-mul_left v l
    in omega arith

-- a product is as wide as each factor times the other, and at most 1 more by the rounding
pub width_mul : (lo hi al ah bl bh : ℤ) (v w a b : ℕ) → pos 0 ≤ℤ lo → pos 0 ≤ℤ hi → pos 0 ≤ℤ al → pos 0 ≤ℤ bl → al ≤ℤ ah
    → bl ≤ℤ bh → ah ≤ℤ pos (a * fine) → bh ≤ℤ pos (b * fine) → IsFloor lo (al *ℤ bl) (pos fine)
    → IsCeiling hi (ah *ℤ bh) (pos fine) → ah ≤ℤ (al +ℤ pos v) → bh ≤ℤ (bl +ℤ pos w)
    → hi ≤ℤ (lo +ℤ pos (v * b + w * a + 1))
width_mul (pos lo) (pos hi) (pos al) (pos ah) (pos bl) (pos bh) v w a b i0 i1 i2 i3 i4 i5 i6 i7 f c p q =
    let k =
    width_nat lo hi al ah bl bh v w a b (omega (arith, ints, f.nearest)) (omega (arith, ints, c.nearest))
    (omega (arith, ints)) (omega (arith, ints)) (omega (arith, ints)) (omega (arith, ints))
    in omega (arith, ints)
width_mul (negsuc lo) hi al ah bl bh v w a b i0 i1 i2 i3 i4 i5 i6 i7 f c p q = absurd (omega (arith, ints, i0))
width_mul lo (negsuc hi) al ah bl bh v w a b i0 i1 i2 i3 i4 i5 i6 i7 f c p q = absurd (omega (arith, ints, i1))
width_mul lo hi (negsuc al) ah bl bh v w a b i0 i1 i2 i3 i4 i5 i6 i7 f c p q = absurd (omega (arith, ints, i2))
width_mul lo hi al ah (negsuc bl) bh v w a b i0 i1 i2 i3 i4 i5 i6 i7 f c p q = absurd (omega (arith, ints, i3))
width_mul lo hi (pos al) (negsuc ah) bl bh v w a b i0 i1 i2 i3 i4 i5 i6 i7 f c p q = absurd (omega (arith, ints, i4))
width_mul lo hi al ah (pos bl) (negsuc bh) v w a b i0 i1 i2 i3 i4 i5 i6 i7 f c p q = absurd (omega (arith, ints, i5))

-- printed, an interval grows by less than 2 units: by at most 1 past its width rounded up
pub width_printed : (l h lo hi : ℤ) (w : ℕ) → IsFloor l lo (pos printed) → IsCeiling h hi (pos printed)
    → hi ≤ℤ (lo +ℤ pos w) → h ≤ℤ (l +ℤ pos (printed_ceiling w + 1))
width_printed l h lo hi w f c p = omega (arith, ints, f.nearest, c.nearest)

-- the width of a quotient by at least one, of at most t ones, over naturals
quotient_width_nat : (lo hi al ah bl bh v w t u : ℕ) → 0 < u → al * u < lo * bh + bh → hi * bl < ah * u + bl
    → ah ≤ al + v → bh ≤ bl + w → u ≤ bl → bl ≤ bh → ah ≤ t * u → hi ≤ lo + (v + t * w + 1)
quotient_width_nat lo hi al ah bl bh v w t u z p q i j k l m =
    let e1 : ah * u * bh ≤ ah * u * (bl + w) = mul-le-mul_left (ah * u) j
    in let e2 : ah * (u * bl) ≤ (al + v) * (u * bl) = mul-le-mul_right (u * bl) i
    in let e3 : ah * (u * w) ≤ t * u * (u * w) = mul-le-mul_right (u * w) m
    in let e4 : u * (v * bl) ≤ bh * (v * bl) = mul-le-mul_right (v * bl) (omega arith)
    in let e5 : u * u ≤ bl * bh = mul-le u u bl bh k (omega arith)
    in let e6 : u * u * (t * w) ≤ bl * bh * (t * w) = mul-le-mul_right (t * w) e5
    in let e7 : (al * u + 1) * bl ≤ (lo * bh + bh) * bl = mul-le-mul_right bl (omega arith)
    in let e8 : (hi * bl + 1) * bh ≤ (ah * u + bl) * bh = mul-le-mul_right bh (omega arith)
    in let s : hi * (bl * bh) < (lo + (v + t * w + 1) + 1) * (bl * bh) = omega arith
    in let r : hi < lo + (v + t * w + 1) + 1 = lt_of_mul_lt hi (lo + (v + t * w + 1) + 1) (bl * bh) s
    in omega arith

-- a quotient by at least one is as wide as its numerator, and as its divisor times the ones in the numerator
pub width_quotient : (lo hi al ah bl bh : ℤ) (v w t : ℕ) → pos 0 ≤ℤ lo → pos 0 ≤ℤ hi → pos 0 ≤ℤ al → al ≤ℤ ah
    → pos fine ≤ℤ bl → bl ≤ℤ bh → ah ≤ℤ pos (t * fine) → IsFloor lo (al *ℤ pos fine) bh
    → IsCeiling hi (ah *ℤ pos fine) bl → ah ≤ℤ (al +ℤ pos v) → bh ≤ℤ (bl +ℤ pos w) → hi ≤ℤ (lo +ℤ pos (v + t * w + 1))
width_quotient (pos lo) (pos hi) (pos al) (pos ah) (pos bl) (pos bh) v w t i0 i1 i2 i3 i4 i5 i6 f c p q =
    let k =
    quotient_width_nat lo hi al ah bl bh v w t fine (lit< tt) (omega (arith, ints, f.nearest))
    (omega (arith, ints, c.nearest)) (omega (arith, ints)) (omega (arith, ints)) (omega (arith, ints))
    (omega (arith, ints)) (omega (arith, ints))
    in omega (arith, ints)
width_quotient (negsuc lo) hi al ah bl bh v w t i0 i1 i2 i3 i4 i5 i6 f c p q = absurd (omega (arith, ints, i0))
width_quotient lo (negsuc hi) al ah bl bh v w t i0 i1 i2 i3 i4 i5 i6 f c p q = absurd (omega (arith, ints, i1))
width_quotient lo hi (negsuc al) ah bl bh v w t i0 i1 i2 i3 i4 i5 i6 f c p q = absurd (omega (arith, ints, i2))
width_quotient lo hi (pos al) (negsuc ah) bl bh v w t i0 i1 i2 i3 i4 i5 i6 f c p q = absurd (omega (arith, ints, i3))
width_quotient lo hi al ah (negsuc bl) bh v w t i0 i1 i2 i3 i4 i5 i6 f c p q = absurd (omega (arith, ints, i4))
width_quotient lo hi al ah (pos bl) (negsuc bh) v w t i0 i1 i2 i3 i4 i5 i6 f c p q = absurd (omega (arith, ints, i5))
