-- How wide a choice by a chance is: as its chance, and as the wider of its two values.
use Rattle.std.proofs.Common.{◌≡◌, ℕ, ◌+◌, ◌*◌, ◌-◌, ◌≤◌, ℤ, pos, negsuc, ◌+ℤ◌, ◌≤ℤ◌, arith, subst, sym, ap, ⊎_elim}
use Rattle.std.proofs.lemmas.Int.{ints}
use Rattle.std.proofs.lemmas.Nat.{mul-le}
use Rattle.std.proofs.Math.Nat.{mul-le-mul_left}
use Rattle.std.specs.Int.{int_min, int_max}
use Rattle.halo_num.specs.Ends.{Ends, fine, IsWithin, HasWidth}
use Rattle.halo_num.specs.Rounding.{IsFloor, IsCeiling}
use Rattle.halo_num.specs.Blend.{blend}
use Rattle.halo_sums.proofs.Integers.{le_trans}
use Rattle.halo_num.proofs.Parts.{int_min_cases, int_max_cases}
use Rattle.halo_num.proofs.Blends.{by_order, blend_pos}

-- blends at chances that are near, of the same values
chances_near : (s t r q x y k u : ℕ) → s + t ≡ u → r + q ≡ u → s ≤ r + k → r ≤ s + k → x ≤ u → y ≤ u
    → s * x + t * y ≤ r * x + q * y + k * u
chances_near s t r q x y k u e f i j l m =
    by_order s r
    (λ (c : ℕ) (h : s ≡ r + c).
    let g : q ≡ t + c = omega arith
    in let n : c * x ≤ k * u = mul-le c x k u (omega arith) l
    in rw (h, g) (omega arith))
    (λ (c : ℕ) (h : r ≡ s + c).
    let g : t ≡ q + c = omega arith
    in let n : c * y ≤ k * u = mul-le c y k u (omega arith) m
    in rw (h, g) (omega arith))

-- blends at chances that are near, of values that are near
blends_near : (s t r q x y v w k m u : ℕ) → s + t ≡ u → r + q ≡ u → s ≤ r + k → r ≤ s + k → v ≤ u → w ≤ u → x ≤ v + m
    → y ≤ w + m → s * x + t * y ≤ r * v + q * w + (k + m) * u
blends_near s t r q x y v w k m u e f i j l n g h =
    let a : s * x ≤ s * (v + m) = mul-le-mul_left s g
    in let b : t * y ≤ t * (w + m) = mul-le-mul_left t h
    in let c : (s + t) * m ≡ u * m = ap (λ (z : ℕ). z * m) e
    in let d = chances_near s t r q v w k u e f i j l n
    in omega arith

-- the same of integers
blend_near : (s r x y v w : ℤ) (k m : ℕ) → pos 0 ≤ℤ s → pos 0 ≤ℤ r → pos 0 ≤ℤ x → pos 0 ≤ℤ y → pos 0 ≤ℤ v → pos 0 ≤ℤ w
    → s ≤ℤ pos fine → r ≤ℤ pos fine → v ≤ℤ pos fine → w ≤ℤ pos fine → s ≤ℤ (r +ℤ pos k) → r ≤ℤ (s +ℤ pos k)
    → x ≤ℤ (v +ℤ pos m) → y ≤ℤ (w +ℤ pos m) → blend s x y ≤ℤ (blend r v w +ℤ pos ((k + m) * fine))
blend_near (pos s) (pos r) (pos x) (pos y) (pos v) (pos w) k m i0 i1 i2 i3 i4 i5 a b c d e f g h =
    let sl : s ≤ fine = omega (arith, ints)
    in let rl : r ≤ fine = omega (arith, ints)
    in let n =
    blends_near s (fine - s) r (fine - r) x y v w k m fine (omega arith) (omega arith) (omega (arith, ints))
    (omega (arith, ints)) (omega (arith, ints)) (omega (arith, ints)) (omega (arith, ints))
    (omega (arith, ints))
    in let P : ℤ → Type 0 = λ z. z ≤ℤ (blend (pos r) (pos v) (pos w) +ℤ pos ((k + m) * fine))
    in let Q : ℤ → Type 0 = λ z. pos (s * x + (fine - s) * y) ≤ℤ (z +ℤ pos ((k + m) * fine))
    in subst P (sym (blend_pos s x y sl)) (subst Q (sym (blend_pos r v w rl)) (omega (arith, ints)))
blend_near (negsuc s) r x y v w k m i0 i1 i2 i3 i4 i5 a b c d e f g h = absurd (omega (arith, ints))
blend_near s (negsuc r) x y v w k m i0 i1 i2 i3 i4 i5 a b c d e f g h = absurd (omega (arith, ints))
blend_near s r (negsuc x) y v w k m i0 i1 i2 i3 i4 i5 a b c d e f g h = absurd (omega (arith, ints))
blend_near s r x (negsuc y) v w k m i0 i1 i2 i3 i4 i5 a b c d e f g h = absurd (omega (arith, ints))
blend_near s r x y (negsuc v) w k m i0 i1 i2 i3 i4 i5 a b c d e f g h = absurd (omega (arith, ints))
blend_near s r x y v (negsuc w) k m i0 i1 i2 i3 i4 i5 a b c d e f g h = absurd (omega (arith, ints))

-- rounding outward adds at most 1
rounded_near : (lo hi z w : ℤ) (k : ℕ) → IsFloor lo z (pos fine) → IsCeiling hi w (pos fine)
    → w ≤ℤ (z +ℤ pos (k * fine)) → hi ≤ℤ (lo +ℤ pos (k + 1))
rounded_near lo hi z w k f c h = omega (arith, ints, f.nearest, c.nearest)

-- a choice is as wide as its chance and the wider of its values, and at most 1 more by the rounding
pub width_mix : (p a b r : Ends) (k m : ℕ) → IsWithin p (pos 0) (pos fine) → IsWithin a (pos 0) (pos fine)
    → IsWithin b (pos 0) (pos fine) → p.lo ≤ℤ p.hi → a.lo ≤ℤ a.hi → b.lo ≤ℤ b.hi
    → IsFloor r.lo (int_min (blend p.lo a.lo b.lo) (blend p.hi a.lo b.lo)) (pos fine)
    → IsCeiling r.hi (int_max (blend p.lo a.hi b.hi) (blend p.hi a.hi b.hi)) (pos fine) → HasWidth p k → HasWidth a m
    → HasWidth b m → HasWidth r (k + m + 1)
width_mix p a b r k m pw aw bw po ao bo f c hp ha hb =
    let top : ℤ = int_max (blend p.lo a.hi b.hi) (blend p.hi a.hi b.hi)
    in let low : ℤ = int_min (blend p.lo a.lo b.lo) (blend p.hi a.lo b.lo)
    in let near : (s t : ℤ) → p.lo ≤ℤ s → s ≤ℤ p.hi → p.lo ≤ℤ t → t ≤ℤ p.hi
    → blend s a.hi b.hi ≤ℤ (blend t a.lo b.lo +ℤ pos ((k + m) * fine)) =
    λ s t s0 s1 t0 t1.
    let n = hp.near
    in let s2 : s ≤ℤ (t +ℤ pos k) = omega (arith, ints)
    in let t2 : t ≤ℤ (s +ℤ pos k) = omega (arith, ints)
    in blend_near s t a.hi b.hi a.lo b.lo k m (le_trans (pos 0) p.lo s pw.low s0) (le_trans (pos 0) p.lo t pw.low t0)
    (le_trans (pos 0) a.lo a.hi aw.low ao) (le_trans (pos 0) b.lo b.hi bw.low bo) aw.low bw.low
    (le_trans s p.hi (pos fine) s1 pw.high) (le_trans t p.hi (pos fine) t1 pw.high)
    (le_trans a.lo a.hi (pos fine) ao aw.high) (le_trans b.lo b.hi (pos fine) bo bw.high) s2 t2 ha.near
    hb.near
    in let same : (z : ℤ) → z ≤ℤ z = λ z. omega (arith, ints)
    in let from : (s : ℤ) → p.lo ≤ℤ s → s ≤ℤ p.hi → blend s a.hi b.hi ≤ℤ (low +ℤ pos ((k + m) * fine)) = λ s s0 s1.
    let P : ℤ → Type 0 = λ z. blend s a.hi b.hi ≤ℤ (z +ℤ pos ((k + m) * fine))
    in ⊎_elim
    (λ (e : low ≡ blend p.lo a.lo b.lo). subst P (sym e) (near s p.lo s0 s1 (same p.lo) po))
    (λ (e : low ≡ blend p.hi a.lo b.lo). subst P (sym e) (near s p.hi s0 s1 po (same p.hi)))
    (int_min_cases (blend p.lo a.lo b.lo) (blend p.hi a.lo b.lo))
    in let Q : ℤ → Type 0 = λ z. z ≤ℤ (low +ℤ pos ((k + m) * fine))
    in let whole : Q top = ⊎_elim
    (λ (e : top ≡ blend p.lo a.hi b.hi). subst Q (sym e) (from p.lo (same p.lo) po))
    (λ (e : top ≡ blend p.hi a.hi b.hi). subst Q (sym e) (from p.hi po (same p.hi)))
    (int_max_cases (blend p.lo a.hi b.hi) (blend p.hi a.hi b.hi))
    in record { near = rounded_near r.lo r.hi low top (k + m) f c whole }
