-- Alternating sums of products of two binomial coefficients pick out one number.
use Rattle.std.proofs.Common.{◌≡◌, ◌⊎◌, ℕ, zero, suc, ◌+◌, ◌-◌, ◌<◌, ◌≤◌, arith, refl, ap, sym, ◌∙◌, ⊎_elim, inl, inr, List, [], ◌∷◌, length, map, Bool, true, false, nat_eq, nat_le, ℤ, pos, ◌+ℤ◌, ◌-ℤ◌, ◌*ℤ◌, neg_ℤ}
use Rattle.std.proofs.lemmas.Bool.{cases_lt}
use Rattle.std.proofs.lemmas.Bool.Decides.{nat_tests}
use Rattle.std.proofs.lemmas.Int.{ints}
use Rattle.halo_sums.specs.Sums.{count_true, indicator, int_sum_over, numbers_from}
use Rattle.halo_sums.specs.Coefficients.{alternating}
use Rattle.halo_sums.proofs.Choices.{choose-past, choose-zero}
use Rattle.halo_sums.proofs.Integers.{mul_add, neg_mul, pos_add, sub_mul}
use Rattle.halo_sums.proofs.Numbers.{numbers_from-add}
use Rattle.halo_sums.proofs.IntSums.{int_sum_over-add, int_sum_over-append, int_sum_over-ext, int_sum_over-none, int_sum_over-sub}
use Rattle.halo_sums.specs.Choices.{choose}
use Rattle.halo_poly.specs.Symmetric.{at_least_sum, exactly_sum, symmetric_sum}
use Rattle.halo_poly.proofs.SymmetricSums.{symmetric-counts}

-- a binomial coefficient with its sign
abbrev pub signed : ℕ → ℕ → ℤ
signed j r = alternating (j - r) (pos (choose j r))

alternating-add : (n : ℕ) (y z : ℤ) → alternating n (y +ℤ z) ≡ alternating n y +ℤ alternating n z
alternating-add zero y z = refl
alternating-add (suc n) y z = omega (arith, ints, alternating-add n y z)

alternating-times : (n : ℕ) (y z : ℤ) → alternating n (y *ℤ z) ≡ alternating n y *ℤ z
alternating-times zero y z = refl
alternating-times (suc n) y z = ap neg_ℤ (alternating-times n y z) ∙ sym (neg_mul (alternating n y) z)

alternating-none : (n : ℕ) → alternating n (pos 0) ≡ pos 0
alternating-none zero = refl
alternating-none (suc n) = omega (arith, ints, alternating-none n)

-- one sign more, unless there is nothing to turn
turned : (j r : ℕ)
    → alternating (j - r) (pos (choose j (suc r))) ≡ neg_ℤ (alternating (j - suc r) (pos (choose j (suc r))))
turned j r = ⊎_elim
    (λ (h : r < j). let e : j - r ≡ suc (j - suc r) = omega arith in ap (λ n. alternating n (pos (choose j (suc r)))) e)
    (λ (h : j ≤ r).
    let none : choose j (suc r) ≡ 0 = choose-past j (suc r) (omega arith) in
    rw none (omega (arith, ints, alternating-none (j - r), alternating-none (j - suc r))))
    (cases_lt r j)

signed-more : (j r : ℕ) → signed (suc j) (suc r) ≡ signed j r -ℤ signed j (suc r)
signed-more j r =
    let e : suc j - suc r ≡ j - r = omega arith in
    ap (λ n. alternating n (pos (choose j r + choose j (suc r)))) e
    ∙ ap (alternating (j - r)) (pos_add (choose j r) (choose j (suc r)))
    ∙ alternating-add (j - r) (pos (choose j r)) (pos (choose j (suc r)))
    ∙ omega (arith, ints, turned j r)

signed-zero : (j : ℕ) → signed (suc j) 0 ≡ neg_ℤ (signed j 0)
signed-zero j =
    let whole : suc j - 0 ≡ suc j = omega arith in
    let less : j - 0 ≡ j = omega arith in
    rw (whole, less, choose-zero j) refl

-- sums over the first numbers, from the front and from the back
shifted : (c first : ℕ) (f : ℕ → ℤ)
    → int_sum_over (numbers_from (suc first) c) f ≡ int_sum_over (numbers_from first c) (λ i. f (suc i))
shifted zero first f = refl
shifted (suc c) first f = ap (λ z. f (suc first) +ℤ z) (shifted c (suc first) f)

front : (c : ℕ) (f : ℕ → ℤ)
    → int_sum_over (numbers_from 0 (suc c)) f ≡ f 0 +ℤ int_sum_over (numbers_from 0 c) (λ i. f (suc i))
front c f = ap (λ z. f 0 +ℤ z) (shifted c 0 f)

back : (c : ℕ) (f : ℕ → ℤ) → int_sum_over (numbers_from 0 (suc c)) f ≡ int_sum_over (numbers_from 0 c) f +ℤ f c
back c f =
    let next : suc c ≡ c + 1 = omega arith in
    let place : 0 + c ≡ c = omega arith in
    ap (λ m. int_sum_over (numbers_from 0 m) f) next ∙ ap (λ xs. int_sum_over xs f) (numbers_from-add c 1 0)
    ∙ (int_sum_over-append (numbers_from 0 c) ((0 + c) ∷ []) f
    ∙ ap (λ z. int_sum_over (numbers_from 0 c) f +ℤ (z +ℤ pos 0)) (ap f place)
    ∙ omega (arith, ints))

none_times : (z : ℤ) → pos 0 *ℤ z ≡ pos 0
none_times z = omega (arith, ints)

times_none : (z : ℤ) → z *ℤ pos 0 ≡ pos 0
times_none z = omega (arith, ints)

-- the products of the signed coefficients at r with those of k things
abbrev products : ℕ → ℕ → ℕ → ℤ
products r k j = signed j r *ℤ pos (choose k j)

abbrev picked : ℕ → ℕ → ℕ → ℤ
picked c r k = int_sum_over (numbers_from 0 c) (products r k)

-- past k there are none
no_product : (r k : ℕ) (c : ℕ) → k < c → products r k c ≡ pos 0
no_product r k c h = ap (λ n. signed c r *ℤ pos n) (choose-past k c h) ∙ times_none (signed c r)

-- a product at one thing more
split_more : (r k i : ℕ)
    → products (suc r) (suc k) (suc i) ≡ (products r k i -ℤ products (suc r) k i) +ℤ products (suc r) k (suc i)
split_more r k i =
    ap (λ z. signed (suc i) (suc r) *ℤ z) (pos_add (choose k i) (choose k (suc i)))
    ∙ mul_add (signed (suc i) (suc r)) (pos (choose k i)) (pos (choose k (suc i)))
    ∙ ap (λ z. z *ℤ pos (choose k i) +ℤ products (suc r) k (suc i)) (signed-more i r)
    ∙ ap (λ z. z +ℤ products (suc r) k (suc i)) (sub_mul (signed i r) (signed i (suc r)) (pos (choose k i)))

split_zero : (k i : ℕ) → products 0 (suc k) (suc i) ≡ neg_ℤ (products 0 k i) +ℤ products 0 k (suc i)
split_zero k i =
    ap (λ z. signed (suc i) 0 *ℤ z) (pos_add (choose k i) (choose k (suc i)))
    ∙ mul_add (signed (suc i) 0) (pos (choose k i)) (pos (choose k (suc i)))
    ∙ ap (λ z. z *ℤ pos (choose k i) +ℤ products 0 k (suc i)) (signed-zero i)
    ∙ ap (λ z. z +ℤ products 0 k (suc i)) (neg_mul (signed i 0) (pos (choose k i)))

first_none : (r k : ℕ) → products (suc r) k 0 ≡ pos 0
first_none r k = ap (λ z. z *ℤ pos (choose k 0)) (alternating-none (0 - suc r)) ∙ none_times (pos (choose k 0))

zero_other : (r : ℕ) → nat_eq 0 (suc r) ≡ false
zero_other r = grind (arith, nat_tests)

some_other : (k : ℕ) → nat_eq (suc k) 0 ≡ false
some_other k = grind (arith, nat_tests)

-- one thing more, and one rank more
picked-more : (c r k : ℕ) → k < c → picked (suc c) (suc r) (suc k) ≡ picked c r k
picked-more c r k h = omega (
  arith,
  ints,
  front c (products (suc r) (suc k)),
  first_none r (suc k),
  int_sum_over-ext (numbers_from 0 c) (λ i. products (suc r) (suc k) (suc i))
      (λ i. (products r k i -ℤ products (suc r) k i) +ℤ products (suc r) k (suc i)) (split_more r k),
  int_sum_over-add (numbers_from 0 c) (λ i. products r k i -ℤ products (suc r) k i) (λ i. products (suc r) k (suc i)),
  int_sum_over-sub (numbers_from 0 c) (products r k) (products (suc r) k),
  front c (products (suc r) k),
  first_none r k,
  back c (products (suc r) k),
  no_product (suc r) k c h,
)

int_sum_over-neg : (xs : List ℕ) (f : ℕ → ℤ) → int_sum_over xs (λ x. neg_ℤ (f x)) ≡ neg_ℤ (int_sum_over xs f)
int_sum_over-neg [] f = refl
int_sum_over-neg (x ∷ xs) f = omega (arith, ints, int_sum_over-neg xs f)

first_product : (k : ℕ) → products 0 k 0 ≡ pos 1
first_product k = ap (λ n. pos 1 *ℤ pos n) (choose-zero k)

picked-zero : (c k : ℕ) → k < c → picked (suc c) 0 (suc k) ≡ pos 0
picked-zero c k h = omega (
  arith,
  ints,
  front c (products 0 (suc k)),
  first_product (suc k),
  int_sum_over-ext (numbers_from 0 c) (λ i. products 0 (suc k) (suc i))
      (λ i. neg_ℤ (products 0 k i) +ℤ products 0 k (suc i)) (split_zero k),
  int_sum_over-add (numbers_from 0 c) (λ i. neg_ℤ (products 0 k i)) (λ i. products 0 k (suc i)),
  int_sum_over-neg (numbers_from 0 c) (products 0 k),
  front c (products 0 k),
  first_product k,
  back c (products 0 k),
  no_product 0 k c h,
)

next_same : (n m : ℕ) → nat_eq (suc n) (suc m) ≡ nat_eq n m
next_same n m = grind (arith, nat_tests)

-- the sum is 1 where there are r things, and else 0
pub picked-is : (c r k : ℕ) → k < c → picked c r k ≡ indicator (nat_eq k r)
picked-is zero r k h = absurd (omega arith)
picked-is (suc c) r zero h = front c (products r 0) ∙ rest ∙ first r
  where
    rest : products r 0 0 +ℤ int_sum_over (numbers_from 0 c) (λ i. products r 0 (suc i)) ≡ products r 0 0
    rest =
        omega (
          arith,
          ints,
          int_sum_over-ext (numbers_from 0 c) (λ i. products r 0 (suc i)) (λ i. pos 0)
              (λ i. times_none (signed (suc i) r)),
          int_sum_over-none (numbers_from 0 c),
        )

    first : (r : ℕ) → products r 0 0 ≡ indicator (nat_eq 0 r)
    first zero = refl
    first (suc r) = first_none r 0 ∙ ap indicator (sym (zero_other r))
picked-is (suc c) zero (suc k) h = picked-zero c k (omega arith) ∙ ap indicator (sym (some_other k))
picked-is (suc c) (suc r) (suc k) h =
    picked-more c r k (omega arith) ∙ picked-is c r k (omega arith) ∙ ap indicator (sym (next_same k r))

-- a product of a signed coefficient and a symmetric sum of statuses
term_is : (r : ℕ) (bs : List Bool) (j : ℕ)
    → alternating (j - r) (pos (choose j r) *ℤ symmetric_sum j (map indicator bs)) ≡ products r (count_true bs) j
term_is r bs j =
    ap (λ z. alternating (j - r) (pos (choose j r) *ℤ z)) (symmetric-counts j bs)
    ∙ alternating-times (j - r) (pos (choose j r)) (pos (choose (count_true bs) j))

count_true-le : (bs : List Bool) → count_true bs ≤ length bs
count_true-le [] = omega arith
count_true-le (true ∷ bs) = omega (arith, count_true-le bs)
count_true-le (false ∷ bs) = omega (arith, count_true-le bs)

length-map : (bs : List Bool) → length (map indicator bs) ≡ length bs
length-map [] = refl
length-map (b ∷ bs) = ap suc (length-map bs)

-- the terms below the rank are 0
low_none : (r k c : ℕ) → c ≤ r → int_sum_over (numbers_from 0 c) (products r k) ≡ pos 0
low_none r k zero h = refl
low_none r k (suc c) h =
    let none : choose c r ≡ 0 = choose-past c r (omega arith) in
    back c (products r k)
    ∙ omega (
      arith,
      ints,
      low_none r k c (omega arith),
      ap (λ n. alternating (c - r) (pos n) *ℤ pos (choose k c)) none,
      ap (λ z. z *ℤ pos (choose k c)) (alternating-none (c - r)),
      none_times (pos (choose k c)),
    )

pub exactly-is-sum : (r : ℕ) (bs : List Bool) → indicator (nat_eq (count_true bs) r) ≡ exactly_sum r (map indicator bs)
exactly-is-sum r bs = ⊎_elim within past (cases_lt r (suc (length bs)))
  where
    k : ℕ
    k = count_true bs

    window : (n : ℕ) → length (map indicator bs) ≡ n
        → exactly_sum r (map indicator bs) ≡ int_sum_over (numbers_from r (suc n - r)) (products r k)
    window n e =
        ap
        (λ m.
        int_sum_over (numbers_from r (suc m - r))
        (λ j. alternating (j - r) (pos (choose j r) *ℤ symmetric_sum j (map indicator bs))))
        e
        ∙ int_sum_over-ext (numbers_from r (suc n - r)) _ (products r k) (term_is r bs)

    within : r < suc (length bs) → indicator (nat_eq k r) ≡ exactly_sum r (map indicator bs)
    within h =
        let n : ℕ = length bs in
        let split : r + (suc n - r) ≡ suc n = omega arith in
        let start : 0 + r ≡ r = omega arith in
        let all : int_sum_over (numbers_from 0 (r + (suc n - r))) (products r k)
        ≡ int_sum_over (numbers_from 0 r) (products r k)
        +ℤ int_sum_over (numbers_from (0 + r) (suc n - r)) (products r k) =
        ap (λ xs. int_sum_over xs (products r k)) (numbers_from-add r (suc n - r) 0)
        ∙ int_sum_over-append (numbers_from 0 r) (numbers_from (0 + r) (suc n - r)) (products r k) in
        sym (picked-is (suc n) r k (omega (arith, count_true-le bs)))
        ∙ ap (λ m. picked m r k) (sym split)
        ∙ all
        ∙ ap (λ z. z +ℤ int_sum_over (numbers_from (0 + r) (suc n - r)) (products r k)) (low_none r k r (omega arith))
        ∙ omega (arith, ints)
        ∙ ap (λ first. int_sum_over (numbers_from first (suc n - r)) (products r k)) start
        ∙ sym (window n (length-map bs))

    past : suc (length bs) ≤ r → indicator (nat_eq k r) ≡ exactly_sum r (map indicator bs)
    past h =
        let none : suc (length bs) - r ≡ 0 = omega arith in
        let other : nat_eq k r ≡ false = differ k r (omega (arith, count_true-le bs)) in
        ap indicator other
        ∙ ap (λ c. int_sum_over (numbers_from r c) (products r k)) (sym none)
        ∙ sym (window (length bs) (length-map bs))
      where
        differ : (k r : ℕ) → k < r → nat_eq k r ≡ false
        differ k r h = grind (arith, nat_tests)

-- the same with the coefficients one further on: the sum is 1 where there are more than q things
abbrev counted : ℕ → ℕ → ℕ → ℤ
counted q k i = signed i q *ℤ pos (choose k (suc i))

split_counted : (q k i : ℕ) → counted q (suc k) i ≡ products q k i +ℤ counted q k i
split_counted q k i =
    ap (λ z. signed i q *ℤ z) (pos_add (choose k i) (choose k (suc i)))
    ∙ mul_add (signed i q) (pos (choose k i)) (pos (choose k (suc i)))

equal_told : (k q : ℕ) → k ≡ q → nat_eq k q ≡ true
equal_told k q e = grind (arith, nat_tests)

other_told : (k q : ℕ) → (k < q) ⊎ (q < k) → nat_eq k q ≡ false
other_told k q (inl h) = grind (arith, nat_tests)
other_told k q (inr h) = grind (arith, nat_tests)

more_told : (q k : ℕ) → q < k → nat_le (suc q) k ≡ true
more_told q k h = grind (arith, nat_tests)

no_more_told : (q k : ℕ) → k ≤ q → nat_le (suc q) k ≡ false
no_more_told q k h = grind (arith, nat_tests)

stepped : (q k : ℕ) → indicator (nat_eq k q) +ℤ indicator (nat_le (suc q) k) ≡ indicator (nat_le (suc q) (suc k))
stepped q k = ⊎_elim
    (λ (h : k < q).
    rw (other_told k q (inl h), no_more_told q k (omega arith), no_more_told q (suc k) h) (omega (arith, ints)))
    (λ (h : q ≤ k). ⊎_elim
    (λ (g : q < k).
    rw (other_told k q (inr g), more_told q k g, more_told q (suc k) (omega arith)) (omega (arith, ints)))
    (λ (g : k ≤ q).
    rw (equal_told k q (omega arith), no_more_told q k g, more_told q (suc k) (omega arith)) (omega (arith, ints)))
    (cases_lt q k))
    (cases_lt k q)

counted-is : (c q k : ℕ) → k ≤ c → int_sum_over (numbers_from 0 c) (counted q k) ≡ indicator (nat_le (suc q) k)
counted-is c q zero h =
    int_sum_over-ext (numbers_from 0 c) (counted q 0) (λ i. pos 0) (λ i. times_none (signed i q))
    ∙ int_sum_over-none (numbers_from 0 c)
    ∙ ap indicator (sym (no_more_told q 0 (omega arith)))
counted-is c q (suc k) h =
    int_sum_over-ext (numbers_from 0 c) (counted q (suc k)) (λ i. products q k i +ℤ counted q k i) (split_counted q k)
    ∙ int_sum_over-add (numbers_from 0 c) (products q k) (counted q k)
    ∙ ap (λ z. z +ℤ int_sum_over (numbers_from 0 c) (counted q k)) (picked-is c q k (omega arith))
    ∙ ap (λ z. indicator (nat_eq k q) +ℤ z) (counted-is c q k (omega arith))
    ∙ stepped q k

low_counted : (q k c : ℕ) → c ≤ q → int_sum_over (numbers_from 0 c) (counted q k) ≡ pos 0
low_counted q k zero h = refl
low_counted q k (suc c) h =
    let none : choose c q ≡ 0 = choose-past c q (omega arith) in
    back c (counted q k)
    ∙ omega (
      arith,
      ints,
      low_counted q k c (omega arith),
      ap (λ n. alternating (c - q) (pos n) *ℤ pos (choose k (suc c))) none,
      ap (λ z. z *ℤ pos (choose k (suc c))) (alternating-none (c - q)),
      none_times (pos (choose k (suc c))),
    )

counted_term : (q : ℕ) (bs : List Bool) (i : ℕ)
    → alternating (suc i - suc q) (pos (choose (suc i - 1) (suc q - 1)) *ℤ symmetric_sum (suc i) (map indicator bs))
    ≡ counted q (count_true bs) i
counted_term q bs i =
    let a : suc i - suc q ≡ i - q = omega arith in
    let b : suc i - 1 ≡ i = omega arith in
    let d : suc q - 1 ≡ q = omega arith in
    ap (λ n. alternating n (pos (choose (suc i - 1) (suc q - 1)) *ℤ symmetric_sum (suc i) (map indicator bs))) a
    ∙ ap (λ n. alternating (i - q) (pos (choose n (suc q - 1)) *ℤ symmetric_sum (suc i) (map indicator bs))) b
    ∙ ap (λ n. alternating (i - q) (pos (choose i n) *ℤ symmetric_sum (suc i) (map indicator bs))) d
    ∙ ap (λ z. alternating (i - q) (pos (choose i q) *ℤ z)) (symmetric-counts (suc i) bs)
    ∙ alternating-times (i - q) (pos (choose i q)) (pos (choose (count_true bs) (suc i)))

pub at-least-is-sum : (r : ℕ) (bs : List Bool) → 1 ≤ r
    → indicator (nat_le r (count_true bs)) ≡ at_least_sum r (map indicator bs)
at-least-is-sum zero bs h = absurd (omega arith)
at-least-is-sum (suc q) bs h = ⊎_elim past within (cases_lt (length bs) q)
  where
    k : ℕ
    k = count_true bs

    window : (n : ℕ) → length (map indicator bs) ≡ n
        → at_least_sum (suc q) (map indicator bs) ≡ int_sum_over (numbers_from q (suc n - suc q)) (counted q k)
    window n e =
        ap
        (λ m.
        int_sum_over (numbers_from (suc q) (suc m - suc q))
        (λ j. alternating (j - suc q) (pos (choose (j - 1) (suc q - 1)) *ℤ symmetric_sum j (map indicator bs))))
        e
        ∙ shifted (suc n - suc q) q
        (λ j. alternating (j - suc q) (pos (choose (j - 1) (suc q - 1)) *ℤ symmetric_sum j (map indicator bs)))
        ∙ int_sum_over-ext (numbers_from q (suc n - suc q)) _ (counted q k) (counted_term q bs)

    within : q ≤ length bs → indicator (nat_le (suc q) k) ≡ at_least_sum (suc q) (map indicator bs)
    within g =
        let n : ℕ = length bs in
        let split : q + (suc n - suc q) ≡ n = omega arith in
        let start : 0 + q ≡ q = omega arith in
        let all : int_sum_over (numbers_from 0 (q + (suc n - suc q))) (counted q k)
        ≡ int_sum_over (numbers_from 0 q) (counted q k)
        +ℤ int_sum_over (numbers_from (0 + q) (suc n - suc q)) (counted q k) =
        ap (λ xs. int_sum_over xs (counted q k)) (numbers_from-add q (suc n - suc q) 0)
        ∙ int_sum_over-append (numbers_from 0 q) (numbers_from (0 + q) (suc n - suc q)) (counted q k) in
        sym (counted-is n q k (count_true-le bs))
        ∙ ap (λ m. int_sum_over (numbers_from 0 m) (counted q k)) (sym split)
        ∙ all
        ∙ ap (λ z. z +ℤ int_sum_over (numbers_from (0 + q) (suc n - suc q)) (counted q k))
        (low_counted q k q (omega arith))
        ∙ omega (arith, ints)
        ∙ ap (λ first. int_sum_over (numbers_from first (suc n - suc q)) (counted q k)) start
        ∙ sym (window n (length-map bs))

    past : length bs < q → indicator (nat_le (suc q) k) ≡ at_least_sum (suc q) (map indicator bs)
    past g =
        let none : suc (length bs) - suc q ≡ 0 = omega arith in
        ap indicator (no_more_told q k (omega (arith, count_true-le bs)))
        ∙ ap (λ c. int_sum_over (numbers_from q c) (counted q k)) (sym none)
        ∙ sym (window (length bs) (length-map bs))
