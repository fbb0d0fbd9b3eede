-- The sum over outcomes of what is linear in each life. A reading tells of a life's way how much it counts with the
-- life
-- in a set, and how much with the life outside.
use Rattle.std.proofs.Common.{◌≡◌, ℕ, arith, refl, ap, sym, ◌∙◌, List, [], ◌∷◌, length, Bool, true, false, Option, ℤ, pos, ◌+ℤ◌, ◌*ℤ◌, ◌-ℤ◌}
use Rattle.std.proofs.lemmas.Int.{ints}
use Rattle.halo_sums.specs.Sums.{int_sum_over}
use Rattle.halo_sums.specs.Sets.{sets}
use Rattle.halo_sums.specs.Coefficients.{coefficient}
use Rattle.halo_sums.proofs.Integers.{mul_add, mul_assoc}
use Rattle.halo_sums.proofs.IntSums.{int_sum_over-add, int_sum_over-ext, int_sum_over-scale_right}
use Rattle.halo_sums.proofs.Coefficients.{coefficient-empty, coefficients-gather}
use Rattle.halo_model.specs.Life.{PlainLife, after_first}
use Rattle.halo_model.specs.Outcome.{Exit, Outcome, exit_weight, ways}
use Rattle.halo_model.specs.Expectation.{expected}
use Rattle.halo_model.proofs.Expected.{expected-add, expected-cons, expected-scale}

abbrev pub Reading : Type 0
Reading = Option Exit → Bool → ℤ

-- f on an outcome, read linearly in each life
abbrev pub linear_in : (ℕ → Reading) → Outcome → (List Bool → ℤ) → ℤ
linear_in r [] f = f []
linear_in r (way ∷ o) f =
    r 0 way true *ℤ linear_in (after_first r) o (λ u. f (true ∷ u)) +ℤ r 0 way false *ℤ linear_in (after_first r) o
    (λ u. f (false ∷ u))

-- the sum of a life's reading over what can become of it
abbrev pub reading_sum : Reading → ℕ → Bool → PlainLife → Bool → ℤ
reading_sum r T alive x inside = int_sum_over (ways T alive x) (λ way. pos (exit_weight x way) *ℤ r way inside)

-- the product over the lives, where those outside the set are read either way
abbrev pub reading_product : (ℕ → Reading) → ℕ → (ℕ → Bool) → List PlainLife → List Bool → ℤ
reading_product r T S [] s = pos 1
reading_product r T S (x ∷ lives) [] = pos 1
reading_product r T S (x ∷ lives) (true ∷ s) =
    reading_sum (r 0) T (S 0) x true *ℤ reading_product (after_first r) T (after_first S) lives s
reading_product r T S (x ∷ lives) (false ∷ s) =
    (reading_sum (r 0) T (S 0) x true +ℤ reading_sum (r 0) T (S 0) x false) *ℤ reading_product (after_first r) T
    (after_first S) lives s

expected-linear : (T : ℕ) (S : ℕ → Bool) (lives : List PlainLife) (c d : ℤ) (g h : Outcome → ℤ)
    → expected T S lives (λ o. c *ℤ g o +ℤ d *ℤ h o) ≡ c *ℤ expected T S lives g +ℤ d *ℤ expected T S lives h
expected-linear T S lives c d g h = expected-add T S lives (λ o. c *ℤ g o) (λ o. d *ℤ h o)
    ∙ ap (λ z. z +ℤ expected T S lives (λ o. d *ℤ h o)) (expected-scale T S lives c g)
    ∙ ap (λ z. c *ℤ expected T S lives g +ℤ z) (expected-scale T S lives d h)

ways-linear : (some_ways : List (Option Exit)) (g : Option Exit → ℤ) (r : Reading) (y n : ℤ)
    → int_sum_over some_ways (λ way. g way *ℤ (r way true *ℤ y +ℤ r way false *ℤ n))
    ≡ int_sum_over some_ways (λ way. g way *ℤ r way true) *ℤ y +ℤ int_sum_over some_ways
    (λ way. g way *ℤ r way false) *ℤ n
ways-linear some_ways g r y n =
    int_sum_over-ext some_ways _ _ (λ way. mul_add (g way) (r way true *ℤ y) (r way false *ℤ n)
    ∙ ap (λ z. z +ℤ g way *ℤ (r way false *ℤ n)) (sym (mul_assoc (g way) (r way true) y))
    ∙ ap (λ z. g way *ℤ r way true *ℤ y +ℤ z) (sym (mul_assoc (g way) (r way false) n)))
    ∙ int_sum_over-add some_ways (λ way. g way *ℤ r way true *ℤ y) (λ way. g way *ℤ r way false *ℤ n)
    ∙ ap (λ z. z +ℤ int_sum_over some_ways (λ way. g way *ℤ r way false *ℤ n))
    (int_sum_over-scale_right some_ways y (λ way. g way *ℤ r way true))
    ∙ ap (λ z. int_sum_over some_ways (λ way. g way *ℤ r way true) *ℤ y +ℤ z)
    (int_sum_over-scale_right some_ways n (λ way. g way *ℤ r way false))

-- the second of two parts is their sum less the first
second-part : (a b n : ℤ) → b *ℤ n ≡ ((a +ℤ b) -ℤ a) *ℤ n
second-part a b n = ap (λ z. z *ℤ n) (drop a b)
  where
    drop : (a b : ℤ) → b ≡ (a +ℤ b) -ℤ a
    drop a b = omega (arith, ints)

-- the sum over outcomes of what is linear in each life, by the coefficients of f
pub expected-by-readings : (T : ℕ) (S : ℕ → Bool) (r : ℕ → Reading) (lives : List PlainLife) (f : List Bool → ℤ)
    → expected T S lives (λ o. linear_in r o f)
    ≡ int_sum_over (sets (length lives)) (λ s. coefficient f s *ℤ reading_product r T S lives s)
expected-by-readings T S r [] f = omega (arith, ints, coefficient-empty f)
expected-by-readings T S r (x ∷ lives) f =
    expected-cons T S x lives (λ o. linear_in r o f)
    ∙ int_sum_over-ext (ways T (S 0) x) _ _ (λ way. ap (λ z. pos (exit_weight x way) *ℤ z)
    (expected-linear T S' lives (r 0 way true) (r 0 way false) (λ o. linear_in r' o (λ u. f (true ∷ u)))
    (λ o. linear_in r' o (λ u. f (false ∷ u)))))
    ∙ ways-linear (ways T (S 0) x) (λ way. pos (exit_weight x way)) (r 0)
    (expected T S' lives (λ o. linear_in r' o (λ u. f (true ∷ u))))
    (expected T S' lives (λ o. linear_in r' o (λ u. f (false ∷ u))))
    ∙ ap (λ z. inside *ℤ z +ℤ outside *ℤ expected T S' lives (λ o. linear_in r' o (λ u. f (false ∷ u))))
    (expected-by-readings T S' r' lives (λ u. f (true ∷ u)))
    ∙ ap (λ z. inside *ℤ sum_with +ℤ outside *ℤ z) (expected-by-readings T S' r' lives (λ u. f (false ∷ u)))
    ∙ ap (λ z. inside *ℤ sum_with +ℤ z) (second-part inside outside sum_without)
    ∙ coefficients-gather (length lives) inside (inside +ℤ outside) (reading_product r' T S' lives) f
    (λ s. coefficient f s *ℤ reading_product r T S (x ∷ lives) s) (λ u. refl) (λ u. refl)
  where
    S' : ℕ → Bool
    S' = after_first S

    r' : ℕ → Reading
    r' = after_first r

    inside : ℤ
    inside = reading_sum (r 0) T (S 0) x true

    outside : ℤ
    outside = reading_sum (r 0) T (S 0) x false

    sum_with : ℤ
    sum_with =
        int_sum_over (sets (length lives)) (λ s. coefficient (λ u. f (true ∷ u)) s *ℤ reading_product r' T S' lives s)

    sum_without : ℤ
    sum_without =
        int_sum_over (sets (length lives)) (λ s. coefficient (λ u. f (false ∷ u)) s *ℤ reading_product r' T S' lives s)
