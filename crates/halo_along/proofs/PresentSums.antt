-- Sums of present values over the years from a time on, one year more.
use Rattle.std.proofs.Common.{◌≡◌, ℕ, ◌+◌, ◌*◌, ◌-◌, ◌^◌, ◌≤◌, Bool, ℤ, pos, neg_ℤ, ◌+ℤ◌, arith, ap, ◌∙◌}
use Rattle.std.proofs.lemmas.Int.{ints}
use Rattle.std.proofs.Math.Nat.{mul-le-mul_right}
use Rattle.halo_sums.specs.Sums.{int_sum_over, numbers_from}
use Rattle.halo_sums.proofs.IntSums.{int_sum_over-append}
use Rattle.halo_sums.proofs.Numbers.{numbers_from-add, numbers_from-split}
use Rattle.halo_num.specs.Ends.{Ends, IsWithin, fine}
use Rattle.halo_num.proofs.Enclosures.{encloses_add}
use Rattle.halo_model.specs.Basis.{Basis}
use Rattle.halo_along.specs.Years.{EnclosesPresent}

-- 0 encloses nothing
pub nothing-encloses : (b : Basis) (T : ℕ) (S : ℕ → Bool) (value : ℤ) (w most : ℕ) (i : Ends)
    → value ≡ pos 0 → i.lo ≡ pos 0 → i.hi ≡ pos 0 → EnclosesPresent b T S value w most i
nothing-encloses b T S value w most i none low high = record {
  encloses = record { low = rw (none, low) (omega (arith, ints)); high = rw (none, high) (omega (arith, ints)) };
  narrow = record { near = omega (arith, ints, low, high) };
  within = record { low = omega (arith, ints, low); high = omega (arith, ints, high) };
}

-- the same value within greater bounds
pub in-greater-bounds : (b : Basis) (T : ℕ) (S : ℕ → Bool) (x y : ℤ) (v w m n : ℕ) (i : Ends)
    → y ≡ x → v ≤ w → m ≤ n → EnclosesPresent b T S x v m i → EnclosesPresent b T S y w n i
in-greater-bounds b T S x y v w m n i same wide most is =
    let bound : m * fine ≤ n * fine = mul-le-mul_right fine most in
    record {
      encloses = rw same is.encloses;
      narrow = record { near = omega (arith, ints, wide, is.narrow.near) };
      within = record { low = is.within.low; high = omega (arith, ints, bound, is.within.high) };
    }

-- the sum of the values of two
pub both-encloses : (b : Basis) (T : ℕ) (S : ℕ → Bool) (x y z : ℤ) (v w u m n l : ℕ) (i j r : Ends)
    → z ≡ x +ℤ y → u ≡ v + w → l ≡ m + n
    → EnclosesPresent b T S x v m i → EnclosesPresent b T S y w n j
    → r.lo ≡ i.lo +ℤ j.lo → r.hi ≡ i.hi +ℤ j.hi → EnclosesPresent b T S z u l r
both-encloses b T S x y z v w u m n l i j r sum wide most of_x of_y low high = record {
  encloses = rw sum (encloses_add i j r _ _ _ low high of_x.encloses of_y.encloses);
  narrow = record { near = rw (low, high) (omega (arith, ints, wide, of_x.narrow.near, of_y.narrow.near)) };
  within = record {
    low = rw low (omega (arith, ints, of_x.within.low, of_y.within.low));
    high = rw high (omega (arith, ints, most, of_x.within.high, of_y.within.high));
  };
}

-- the years from a time to t + 1 are those to t and year t
pub one-year-more : (start t : ℕ) (value : ℕ → ℤ) → start ≤ t
    → int_sum_over (numbers_from start (t + 1 - start)) value
    ≡ int_sum_over (numbers_from start (t - start)) value +ℤ value t
one-year-more start t value from =
    ap (λ (n : ℕ). int_sum_over (numbers_from start n) value) years
    ∙ ap (λ ts. int_sum_over ts value) (numbers_from-add (t - start) 1 start)
    ∙ int_sum_over-append (numbers_from start (t - start)) (numbers_from (start + (t - start)) 1) value
    ∙ ap (λ (u : ℕ). int_sum_over (numbers_from start (t - start)) value +ℤ (value u +ℤ pos 0)) here
    ∙ omega (arith, ints)
  where
    years : t + 1 - start ≡ (t - start) + 1
    years = omega arith

    here : start + (t - start) ≡ t
    here = omega arith

-- the numbers from 0 to n + 1 are those to n and n
pub one-number-more : (n : ℕ) (value : ℕ → ℤ)
    → int_sum_over (numbers_from 0 (n + 1)) value ≡ int_sum_over (numbers_from 0 n) value +ℤ value n
one-number-more n value =
    ap (λ is. int_sum_over is value) (numbers_from-split n 1)
    ∙ int_sum_over-append (numbers_from 0 n) (numbers_from n 1) value
    ∙ omega (arith, ints)

-- a present value of few ones is a small number
pub present-small : (b : Basis) (T : ℕ) (S : ℕ → Bool) (value : ℤ) (w most : ℕ) (i : Ends) → most ≤ 1000000
    → EnclosesPresent b T S value w most i → IsWithin i (neg_ℤ (pos (10 ^ 36))) (pos (10 ^ 36))
present-small b T S value w most i few is =
    let bound : most * fine ≤ 1000000 * fine = mul-le-mul_right fine few in
    record { low = omega (arith, ints, is.within.low); high = omega (arith, ints, bound, is.within.high) }
