-- Sets of numbers as masks: one number, and the union of two sets.
use Rattle.std.proofs.Common.{◌≡◌, ◌≢◌, ◌⊎◌, ℕ, ◌*◌, ◌%◌, ◌^◌, ◌<◌, true, false, ◌||◌, nat_eq, arith, inl, inr}
use Rattle.std.specs.Int.{bit_at}
use Rattle.std.specs.Prelude.{bit_or, max}
use Rattle.std.proofs.lemmas.Bool.Decides.{eqb_tells, nat_tests}
use Rattle.std.proofs.lemmas.Nat.Bits.{bit_at_or, bit_at-pow_same, bit_at-pow_other}
use Rattle.std.proofs.Math.Pow.{pow-lt}
use Rattle.halo_sums.specs.Masks.{has_bit}

-- the mask of one number has that number alone
has_bit-pow : (i j : ℕ) → has_bit (2 ^ i) j ≡ nat_eq j i
has_bit-pow i j = by_equality (eqb_tells j i)
  where
    by_equality : ((nat_eq j i ≡ true) × (j ≡ i)) ⊎ ((nat_eq j i ≡ false) × (j ≢ i)) → has_bit (2 ^ i) j ≡ nat_eq j i
    by_equality (inl same) = rw (same.0, same.1, bit_at-pow_same i)
    by_equality (inr other) = rw (other.0, bit_at-pow_other i j other.1)

-- of two bits the greater is 1 where one of them is
greater_bit : (x y : ℕ) → x < 2 → y < 2 → nat_eq (max x y) 1 ≡ (nat_eq x 1 || nat_eq y 1)
greater_bit x y f g = grind (arith, nat_tests)

bit_at-lt : (n i : ℕ) → bit_at n i < 2
bit_at-lt n i = omega arith

-- the mask of a union has the numbers of both
pub has_bit-or : (a b i : ℕ) → has_bit (bit_or a b) i ≡ (has_bit a i || has_bit b i)
has_bit-or a b i = rw (bit_at_or a b i) (greater_bit _ _ (bit_at-lt a i) (bit_at-lt b i))

-- and so a number below 16, as 16 bits keep it
pub has_bit-shl : (i j : ℕ) → i < 16 → has_bit (1 * 2 ^ i % 65536) j ≡ nat_eq j i
has_bit-shl i j h =
    let small : 2 ^ i < 65536 = pow-lt h in
    let whole : 1 * 2 ^ i % 65536 ≡ 2 ^ i = omega arith in rw whole (has_bit-pow i j)
