-- Equal parts: quotients by a whole number.
use Rattle.std.proofs.Common.{ℕ, ◌+◌, ◌*◌, ◌<◌, ◌≤◌, ℤ, pos, negsuc, ◌+ℤ◌, ◌*ℤ◌, ◌≤ℤ◌, arith}
use Rattle.std.proofs.lemmas.Int.{ints}
use Rattle.std.proofs.Math.Nat.{mul-le-mul_right}
use Rattle.halo_num.specs.Ends.{Ends, fine}
use Rattle.halo_num.specs.Enclosure.{Encloses}
use Rattle.halo_num.specs.Rounding.{IsCeiling, IsFloor}
use Rattle.halo_sums.proofs.Integers.{le_of_mul_pos, lt_of_mul_lt}

low_nat : (r a c n d u : ℕ) → r * c ≤ a → a * d ≤ n * u → r * (d * c) ≤ n * u
low_nat r a c n d u floor encloses =
    let part : r * c * d ≤ a * d = mul-le-mul_right d floor in omega arith

high_nat : (r a c n d u : ℕ) → a ≤ r * c → n * u ≤ a * d → n * u ≤ r * (d * c)
high_nat r a c n d u ceiling encloses =
    let part : a * d ≤ r * c * d = mul-le-mul_right d ceiling in omega arith

low : (r a : ℤ) (c n d : ℕ) → pos 0 ≤ℤ r → pos 0 ≤ℤ a → (r *ℤ pos c) ≤ℤ a
    → (a *ℤ pos d) ≤ℤ (pos n *ℤ pos fine) → (r *ℤ pos (d * c)) ≤ℤ (pos n *ℤ pos fine)
low (pos r) (pos a) c n d i j floor encloses =
    let part = low_nat r a c n d fine (omega (arith, ints)) (omega (arith, ints)) in omega (arith, ints)
low (negsuc r) a c n d i j floor encloses = absurd (omega (arith, ints))
low r (negsuc a) c n d i j floor encloses = absurd (omega (arith, ints))

high : (r a : ℤ) (c n d : ℕ) → pos 0 ≤ℤ r → pos 0 ≤ℤ a → a ≤ℤ (r *ℤ pos c)
    → (pos n *ℤ pos fine) ≤ℤ (a *ℤ pos d) → (pos n *ℤ pos fine) ≤ℤ (r *ℤ pos (d * c))
high (pos r) (pos a) c n d i j ceiling encloses =
    let part = high_nat r a c n d fine (omega (arith, ints)) (omega (arith, ints)) in omega (arith, ints)
high (negsuc r) a c n d i j ceiling encloses = absurd (omega (arith, ints))
high r (negsuc a) c n d i j ceiling encloses = absurd (omega (arith, ints))

-- an equal part of what is enclosed
pub encloses-divided : (i r : Ends) (c n d : ℕ) → pos 0 ≤ℤ i.lo → pos 0 ≤ℤ i.hi → pos 0 ≤ℤ r.lo → pos 0 ≤ℤ r.hi
    → IsFloor r.lo i.lo (pos c) → IsCeiling r.hi i.hi (pos c) → Encloses i (pos n) d → Encloses r (pos n) (d * c)
encloses-divided i r c n d il ih rl rh floor ceiling h =
    record {
      low = low r.lo i.lo c n d rl il floor.reached h.low;
      high = high r.hi i.hi c n d rh ih ceiling.reached h.high;
    }

-- parts keep the order of their wholes
pub ordered-divided : (r s a b : ℤ) (c : ℕ) → 1 ≤ c → a ≤ℤ b → IsFloor r a (pos c) → IsCeiling s b (pos c) → r ≤ℤ s
ordered-divided r s a b c some order floor ceiling =
    le_of_mul_pos r s c (omega arith) (omega (arith, ints, floor.reached, ceiling.reached))

-- an equal part of what is at most as many times b is at most b
pub divided-most : (r a : ℤ) (c b : ℕ) → 1 ≤ c → IsFloor r a (pos c) → a ≤ℤ pos (c * b) → r ≤ℤ pos b
divided-most r a c b some floor most =
    le_of_mul_pos r (pos b) c (omega arith) (omega (arith, ints, floor.reached))

near : (lo hi a b c w : ℕ) → a < lo * c + c → hi * c < b + c → b ≤ a + c * w → hi < lo + w + 2
near lo hi a b c w floor ceiling width = lt_of_mul_lt hi (lo + w + 2) c (omega arith)

-- an equal part is so much narrower, but for 1 of its rounding
pub divided-near : (lo hi a b : ℤ) (c w : ℕ) → pos 0 ≤ℤ lo → pos 0 ≤ℤ hi → pos 0 ≤ℤ a → pos 0 ≤ℤ b
    → IsFloor lo a (pos c) → IsCeiling hi b (pos c) → b ≤ℤ (a +ℤ pos (c * w)) → hi ≤ℤ (lo +ℤ pos (w + 1))
divided-near (pos lo) (pos hi) (pos a) (pos b) c w i j k l floor ceiling width =
    let close = near lo hi a b c w
    (omega (arith, ints, floor.nearest)) (omega (arith, ints, ceiling.nearest)) (omega (arith, ints)) in
    omega (arith, ints)
divided-near (negsuc lo) hi a b c w i j k l floor ceiling width = absurd (omega (arith, ints))
divided-near lo (negsuc hi) a b c w i j k l floor ceiling width = absurd (omega (arith, ints))
divided-near lo hi (negsuc a) b c w i j k l floor ceiling width = absurd (omega (arith, ints))
divided-near lo hi a (negsuc b) c w i j k l floor ceiling width = absurd (omega (arith, ints))
