-- The sum over outcomes of a function of the lives that are there, and of what one life's leaving changes in it.
use Rattle.std.proofs.Common.{◌≡◌, ℕ, zero, suc, ◌<◌, ◌≤◌, arith, refl, ap, sym, ◌∙◌, List, [], ◌∷◌, length, get_or, Bool, true, false, cond, not, None, ℤ, pos, ◌+ℤ◌, ◌*ℤ◌, ◌-ℤ◌, neg_ℤ}
use Rattle.std.proofs.lemmas.Int.{ints}
use Rattle.halo_sums.specs.Sums.{indicator, int_sum_over}
use Rattle.halo_sums.specs.Sets.{sets}
use Rattle.halo_sums.specs.Coefficients.{coefficient}
use Rattle.halo_sums.proofs.Integers.{mul_sub, neg_mul}
use Rattle.halo_sums.proofs.IntSums.{int_sum_over-ext}
use Rattle.halo_model.specs.Life.{AreLives, PlainLife, after_first, leavers_by}
use Rattle.halo_model.specs.Outcome.{Outcome}
use Rattle.halo_model.specs.There.{there, there_at}
use Rattle.halo_model.specs.Expectation.{HasYear, all_there, all_there_at_leaving, derivative, expected, leaves_in}
use Rattle.halo_model.proofs.Expected.{expected-ext}
use Rattle.halo_model.proofs.Readings.{Reading, expected-by-readings, linear_in, reading_product, reading_sum}
use Rattle.halo_model.proofs.LifeReadings.{at_leaving, at_leaving-both, at_leaving-inside, at_time, at_time-both, at_time-inside}

-- life a is read at its leaving, and each other life i at its time
abbrev pub one_leaving : ℕ → (ℕ → Bool) → ℕ → (ℕ → ℕ) → ℕ → Reading
one_leaving zero causes k times zero = at_leaving causes k
one_leaving zero causes k times (suc i) = at_time (times (suc i))
one_leaving (suc a) causes k times zero = at_time (times 0)
one_leaving (suc a) causes k times (suc i) = one_leaving a causes k (after_first times) i

either : (b : Bool) (g : Bool → ℤ) → indicator b *ℤ g true +ℤ indicator (not b) *ℤ g false ≡ g b
either true g = omega (arith, ints)
either false g = omega (arith, ints)

linear_in-there : (times : ℕ → ℕ) (o : Outcome) (f : List Bool → ℤ)
    → linear_in (λ i. at_time (times i)) o f ≡ f (there_at times o)
linear_in-there times [] f = refl
linear_in-there times (way ∷ o) f =
    ap (λ z. indicator (there (times 0) way) *ℤ z +ℤ indicator (not (there (times 0) way)) *ℤ linear_in
    (λ i. at_time (times (suc i))) o (λ u. f (false ∷ u)))
    (linear_in-there (after_first times) o (λ u. f (true ∷ u)))
    ∙ ap (λ z. indicator (there (times 0) way) *ℤ f (true ∷ there_at (after_first times) o) +ℤ indicator
    (not (there (times 0) way)) *ℤ z) (linear_in-there (after_first times) o (λ u. f (false ∷ u)))
    ∙ either (there (times 0) way) (λ b. f (b ∷ there_at (after_first times) o))

factored : (l y n : ℤ) → l *ℤ y +ℤ neg_ℤ l *ℤ n ≡ l *ℤ (y -ℤ n)
factored l y n = omega (arith, ints, mul_sub l y n, neg_mul l n)

linear_in-leaving : (a : ℕ) (causes : ℕ → Bool) (k : ℕ) (times : ℕ → ℕ) (o : Outcome) (f : List Bool → ℤ) → a < length o
    → linear_in (one_leaving a causes k times) o f
    ≡ indicator (leaves_in causes k (get_or o a None)) *ℤ derivative f a (there_at times o)
linear_in-leaving a causes k times [] f h = absurd (omega arith)
linear_in-leaving zero causes k times (way ∷ o) f h =
    ap (λ z. indicator (leaves_in causes k way) *ℤ z +ℤ neg_ℤ (indicator (leaves_in causes k way)) *ℤ linear_in
    (λ i. at_time (times (suc i))) o (λ u. f (false ∷ u)))
    (linear_in-there (after_first times) o (λ u. f (true ∷ u)))
    ∙ ap (λ z. indicator (leaves_in causes k way) *ℤ f (true ∷ there_at (after_first times) o) +ℤ neg_ℤ
    (indicator (leaves_in causes k way)) *ℤ z) (linear_in-there (after_first times) o (λ u. f (false ∷ u)))
    ∙ factored (indicator (leaves_in causes k way)) (f (true ∷ there_at (after_first times) o))
    (f (false ∷ there_at (after_first times) o))
linear_in-leaving (suc a) causes k times (way ∷ o) f h =
    ap (λ z. indicator (there (times 0) way) *ℤ z +ℤ indicator (not (there (times 0) way)) *ℤ linear_in
    (one_leaving a causes k (after_first times)) o (λ u. f (false ∷ u)))
    (linear_in-leaving a causes k (after_first times) o (λ u. f (true ∷ u)) (omega arith))
    ∙ ap (λ z. indicator (there (times 0) way) *ℤ
    (indicator (leaves_in causes k (get_or o a None)) *ℤ derivative (λ u. f (true ∷ u)) a
    (there_at (after_first times) o)) +ℤ indicator (not (there (times 0) way)) *ℤ z)
    (linear_in-leaving a causes k (after_first times) o (λ u. f (false ∷ u)) (omega arith))
    ∙ either (there (times 0) way) (λ b. indicator (leaves_in causes k (get_or o a None)) *ℤ derivative (λ u. f (b ∷ u))
    a (there_at (after_first times) o))

product-there : (times : ℕ → ℕ) (T : ℕ) → ((i : ℕ) → T ≤ times i) → (S : ℕ → Bool) (lives : List PlainLife)
    → AreLives lives → (s : List Bool)
    → reading_product (λ i. at_time (times i)) T S lives s ≡ all_there times T S lives s
product-there times T h S [] rule s = refl
product-there times T h S (x ∷ lives) rule [] = refl
product-there times T h S (x ∷ lives) rule (true ∷ s) =
    ap (λ z. z *ℤ reading_product (λ i. at_time (times (suc i))) T (after_first S) lives s)
    (at_time-inside x rule.0 T (times 0) (h 0) (S 0))
    ∙ ap (λ z. cond (S 0) (pos (x.survivors (times 0))) (pos 0) *ℤ z)
    (product-there (after_first times) T (λ i. h (suc i)) (after_first S) lives rule.1 s)
product-there times T h S (x ∷ lives) rule (false ∷ s) =
    ap (λ z. z *ℤ reading_product (λ i. at_time (times (suc i))) T (after_first S) lives s)
    (at_time-both x rule.0 T (times 0) (h 0) (S 0))
    ∙ ap (λ z. cond (S 0) (pos (x.survivors T)) (pos 1) *ℤ z)
    (product-there (after_first times) T (λ i. h (suc i)) (after_first S) lives rule.1 s)

product-leaving : (a : ℕ) (causes : ℕ → Bool) (k : ℕ) (times : ℕ → ℕ) (T : ℕ) → T ≤ k → ((i : ℕ) → T ≤ times i)
    → (S : ℕ → Bool) → S a ≡ true → (lives : List PlainLife) → AreLives lives → HasYear a k lives → (s : List Bool)
    → reading_product (one_leaving a causes k times) T S lives s ≡ all_there_at_leaving a causes k times T S lives s
product-leaving a causes k times T from h S alive [] rule year s = refl
product-leaving a causes k times T from h S alive (x ∷ lives) rule year [] = refl
product-leaving zero causes k times T from h S alive (x ∷ lives) rule year (true ∷ s) =
    ap (λ b. reading_sum (at_leaving causes k) T b x true *ℤ reading_product (λ i. at_time (times (suc i))) T
    (after_first S) lives s) alive
    ∙ ap (λ z. z *ℤ reading_product (λ i. at_time (times (suc i))) T (after_first S) lives s)
    (at_leaving-inside x T k causes from year)
    ∙ ap (λ z. pos (leavers_by causes x k) *ℤ z)
    (product-there (after_first times) T (λ i. h (suc i)) (after_first S) lives rule.1 s)
product-leaving zero causes k times T from h S alive (x ∷ lives) rule year (false ∷ s) =
    ap (λ z. z *ℤ reading_product (λ i. at_time (times (suc i))) T (after_first S) lives s)
    (at_leaving-both x T k causes (S 0))
    ∙ ap (λ z. pos 0 *ℤ z) (product-there (after_first times) T (λ i. h (suc i)) (after_first S) lives rule.1 s)
product-leaving (suc a) causes k times T from h S alive (x ∷ lives) rule year (true ∷ s) =
    ap (λ z. z *ℤ reading_product (one_leaving a causes k (after_first times)) T (after_first S) lives s)
    (at_time-inside x rule.0 T (times 0) (h 0) (S 0))
    ∙ ap (λ z. cond (S 0) (pos (x.survivors (times 0))) (pos 0) *ℤ z)
    (product-leaving a causes k (after_first times) T from (λ i. h (suc i)) (after_first S) alive lives rule.1 year
    s)
product-leaving (suc a) causes k times T from h S alive (x ∷ lives) rule year (false ∷ s) =
    ap (λ z. z *ℤ reading_product (one_leaving a causes k (after_first times)) T (after_first S) lives s)
    (at_time-both x rule.0 T (times 0) (h 0) (S 0))
    ∙ ap (λ z. cond (S 0) (pos (x.survivors T)) (pos 1) *ℤ z)
    (product-leaving a causes k (after_first times) T from (λ i. h (suc i)) (after_first S) alive lives rule.1 year
    s)

pub HasYear-within : (a k : ℕ) (lives : List PlainLife) → HasYear a k lives → a < length lives
HasYear-within a k [] h = absurd h
HasYear-within zero k (x ∷ lives) h = omega arith
HasYear-within (suc a) k (x ∷ lives) h = omega (arith, HasYear-within a k lives h)

pub expected-by-coefficients : (times : ℕ → ℕ) (T : ℕ) → ((i : ℕ) → T ≤ times i)
    → (S : ℕ → Bool) (lives : List PlainLife) → AreLives lives → (f : List Bool → ℤ)
    → expected T S lives (λ o. f (there_at times o))
    ≡ int_sum_over (sets (length lives)) (λ s. coefficient f s *ℤ all_there times T S lives s)
expected-by-coefficients times T h S lives rule f =
    expected-ext T S lives _ _ (λ o n. sym (linear_in-there times o f))
    ∙ expected-by-readings T S (λ i. at_time (times i)) lives f
    ∙ int_sum_over-ext (sets (length lives)) _ _
    (λ s. ap (λ z. coefficient f s *ℤ z) (product-there times T h S lives rule s))

-- over the outcomes in which life a leaves in year k by one of some causes
pub expected-at-leaving : (a : ℕ) (causes : ℕ → Bool) (k : ℕ) (times : ℕ → ℕ) (T : ℕ) → T ≤ k → ((i : ℕ) → T ≤ times i)
    → (S : ℕ → Bool) → S a ≡ true → (lives : List PlainLife) → AreLives lives → HasYear a k lives → (f : List Bool → ℤ)
    → expected T S lives (λ o. indicator (leaves_in causes k (get_or o a None)) *ℤ derivative f a (there_at times o))
    ≡ int_sum_over (sets (length lives)) (λ s. coefficient f s *ℤ all_there_at_leaving a causes k times T S lives s)
expected-at-leaving a causes k times T from h S alive lives rule year f =
    expected-ext T S lives _ _ (λ o n. sym (linear_in-leaving a causes k times o f
    (omega (arith, HasYear-within a k lives year))))
    ∙ expected-by-readings T S (one_leaving a causes k times) lives f
    ∙ int_sum_over-ext (sets (length lives)) _ _
    (λ s. ap (λ z. coefficient f s *ℤ z) (product-leaving a causes k times T from h S alive lives rule year s))
