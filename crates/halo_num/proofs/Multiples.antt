-- Multiples by a whole number of either sign, and the lesser and the greater of two.
use Rattle.std.proofs.Common.{◌≡◌, ℕ, ℤ, pos, negsuc, ◌*ℤ◌, ◌≤ℤ◌, arith, mul_comm, suc}
use Rattle.std.proofs.lemmas.Int.{ints, clamps}
use Rattle.std.specs.Int.{int_min, int_max}
use lib.IntN.{*ℤ-negsuc}
use Rattle.halo_num.specs.Ends.{Ends, fine}
use Rattle.halo_num.specs.Enclosure.{Encloses}
use Rattle.halo_num.proofs.Enclosures.{low_falls, high_rises}
use Rattle.halo_sums.proofs.Integers.{neg_mul, mul-pos-pos, mul_le_pos}

-- the lesser of two is below both
pub least_of : (x y : ℤ) → (int_min x y ≤ℤ x) × (int_min x y ≤ℤ y)
least_of x y = (omega (arith, ints, clamps), omega (arith, ints, clamps))

-- the greater of two is above both
pub greatest_of : (x y : ℤ) → (x ≤ℤ int_max x y) × (y ≤ℤ int_max x y)
greatest_of x y = (omega (arith, ints, clamps), omega (arith, ints, clamps))

-- the lesser of two is at most the greater
pub least_most : (r s x y : ℤ) → r ≡ int_min x y → s ≡ int_max x y → r ≤ℤ s
least_most r s x y e f = rw (e, f) (omega (arith, ints, clamps))

-- an end times a natural
scale_pos : (a n : ℤ) (d u k : ℕ) → (a *ℤ pos d) ≤ℤ (n *ℤ pos u) → (a *ℤ pos k *ℤ pos d) ≤ℤ (n *ℤ pos k *ℤ pos u)
scale_pos a n d u k p =
    let s = mul_le_pos (a *ℤ pos d) (n *ℤ pos u) k p
    in let e = mul-pos-pos a k d
    in let f = mul-pos-pos a d k
    in let g = mul-pos-pos n k u
    in let h = mul-pos-pos n u k
    in let i = mul_comm d k
    in let j = mul_comm u k
    in rw (e, g, ← i, ← j, ← f, ← h) s

-- an end times a negative number is an end on the other side
scale_neg : (a n : ℤ) (d u k : ℕ) → (a *ℤ pos d) ≤ℤ (n *ℤ pos u) → (n *ℤ negsuc k *ℤ pos u) ≤ℤ (a *ℤ negsuc k *ℤ pos d)
scale_neg a n d u k p =
    let s = scale_pos a n d u (suc k) p
    in rw (*ℤ-negsuc n k, *ℤ-negsuc a k, neg_mul (n *ℤ pos (suc k)) (pos u), neg_mul (a *ℤ pos (suc k)) (pos d))
    (omega (arith, ints, s))

-- the ends times a number, in order
scale_ends : (a : Ends) (k n : ℤ) (d : ℕ) → Encloses a n d
    → Encloses (record { lo = int_min (a.lo *ℤ k) (a.hi *ℤ k); hi = int_max (a.lo *ℤ k) (a.hi *ℤ k) }) (n *ℤ k) d
scale_ends a (pos k) n d p =
    let x = a.lo *ℤ pos k
    in let y = a.hi *ℤ pos k
    in record {
      low = low_falls (int_min x y) x (n *ℤ pos k) d (least_of x y).0 (scale_pos a.lo n d fine k p.low);
      high = high_rises (int_max x y) y (n *ℤ pos k) d (greatest_of x y).1 (scale_pos n a.hi fine d k p.high);
    }
scale_ends a (negsuc k) n d p =
    let x = a.lo *ℤ negsuc k
    in let y = a.hi *ℤ negsuc k
    in record {
      low = low_falls (int_min x y) y (n *ℤ negsuc k) d (least_of x y).1 (scale_neg n a.hi fine d k p.high);
      high = high_rises (int_max x y) x (n *ℤ negsuc k) d (greatest_of x y).0 (scale_neg a.lo n d fine k p.low);
    }

-- a multiple
pub encloses_scale : (a r : Ends) (k n : ℤ) (d : ℕ) → r.lo ≡ int_min (a.lo *ℤ k) (a.hi *ℤ k)
    → r.hi ≡ int_max (a.lo *ℤ k) (a.hi *ℤ k) → Encloses a n d → Encloses r (n *ℤ k) d
encloses_scale a r k n d e f p = let h = scale_ends a k n d p in record { low = rw e h.low; high = rw f h.high }
