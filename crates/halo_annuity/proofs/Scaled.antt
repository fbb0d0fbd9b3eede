-- A value that is not below 0, times a coefficient of either sign.
use Rattle.std.proofs.Common.{◌≡◌, ℕ, suc, ◌+◌, ◌*◌, ◌≤◌, ℤ, pos, negsuc, neg_ℤ, ◌*ℤ◌, ◌≤ℤ◌, arith, ap, sym, ◌∙◌}
use Rattle.std.proofs.lemmas.Int.{ints, clamps}
use Rattle.std.proofs.lemmas.Nat.{mul-le}
use Rattle.std.specs.Int.{int_max, int_min}
use Rattle.halo_sums.proofs.Integers.{mul_neg, neg_mul}
use Rattle.halo_num.specs.Ends.{Ends, IsSized, IsWithin}
use Rattle.halo_model.specs.Backward.{above_zero, below_zero}

-- an integer is as large as its two parts
pub as-sized : (z : ℤ) → IsSized z (above_zero z + below_zero z)
as-sized (pos n) = record { low = omega (arith, ints); high = omega (arith, ints) }
as-sized (negsuc n) = record { low = omega (arith, ints); high = omega (arith, ints) }

times-sized : (a z : ℤ) (most n : ℕ) → pos 0 ≤ℤ a → a ≤ℤ pos most → IsSized z n → IsSized (a *ℤ z) (most * n)
times-sized (negsuc a) z most n from to s = absurd (omega (arith, ints, from))
times-sized (pos a) (pos c) most n from to s =
    let all : a * c ≤ most * n = mul-le a c most n (omega (arith, ints, to)) (omega (arith, ints, s.high)) in
    record { low = omega (arith, ints, all); high = omega (arith, ints, all) }
times-sized (pos a) (negsuc c) most n from to s =
    let all : a * suc c ≤ most * n = mul-le a (suc c) most n (omega (arith, ints, to)) (omega (arith, ints, s.low)) in
    let turned : pos a *ℤ negsuc c ≡ neg_ℤ (pos (a * suc c)) = mul_neg (pos a) (pos (suc c)) in
    rw turned (record { low = omega (arith, ints, all); high = omega (arith, ints, all) })

module _ (i : Ends) (z : ℤ) (most n : ℕ)
    (within : IsWithin i (pos 0) (pos most)) (order : i.lo ≤ℤ i.hi) (sized : IsSized z n) where
  pub low-sized : IsSized (i.lo *ℤ z) (most * n)
  low-sized = times-sized i.lo z most n within.low (omega (arith, ints, order, within.high)) sized

  pub high-sized : IsSized (i.hi *ℤ z) (most * n)
  high-sized = times-sized i.hi z most n (omega (arith, ints, order, within.low)) within.high sized

  -- so is the whole product, and within what is more
  pub scaled-within : (all : ℕ) → most * n ≤ all → (r : Ends)
      → r.lo ≡ int_min (i.lo *ℤ z) (i.hi *ℤ z) → r.hi ≡ int_max (i.lo *ℤ z) (i.hi *ℤ z)
      → IsWithin r (neg_ℤ (pos all)) (pos all)
  scaled-within all room r lo hi = record {
    low = rw lo (omega (arith, ints, clamps, low-sized.low, high-sized.low, room));
    high = rw hi (omega (arith, ints, clamps, low-sized.high, high-sized.high, room));
  }

-- what a coefficient takes in some orders, under a denominator of all lives and orders
pub times-of-part : (orders paid others parts : ℕ) (z : ℤ) → paid * others ≡ parts
    → pos orders *ℤ (z *ℤ pos parts) ≡ (pos paid *ℤ z) *ℤ pos (orders * others)
times-of-part orders paid others parts (pos c) e =
    let all : orders * (c * parts) ≡ paid * c * (orders * others) = rw (← e) (omega arith) in
    ap pos all
times-of-part orders paid others parts (negsuc c) e =
    let all : orders * (suc c * parts) ≡ paid * suc c * (orders * others) = rw (← e) (omega arith) in
    ap (λ y. pos orders *ℤ y) (neg_mul (pos (suc c)) (pos parts))
    ∙ mul_neg (pos orders) (pos (suc c * parts))
    ∙ ap (λ k. neg_ℤ (pos k)) all
    ∙ sym (neg_mul (pos (paid * suc c)) (pos (orders * others)))
    ∙ ap (λ y. y *ℤ pos (orders * others)) (sym (mul_neg (pos paid) (pos (suc c))))
