-- Sums over outcomes of weight times a function: life by life, and what they keep.
use Rattle.std.proofs.Common.{◌≡◌, ℕ, suc, ◌*◌, ◌-◌, ◌<◌, ◌≤◌, arith, refl, ap, sym, ◌∙◌, List, [], ◌∷◌, map, length, Bool, true, false, cond, ◌&&◌, Option, Some, None, ℤ, pos, ◌+ℤ◌, ◌*ℤ◌}
use Rattle.std.proofs.Math.IntN.{*ℤ-zero}
use Rattle.std.proofs.lemmas.Int.{ints}
use Rattle.halo_sums.specs.Sums.{indicator, int_sum_over, numbers_from, sum_over}
use Rattle.halo_sums.proofs.Integers.{mul_add, mul_assoc, mul_left_comm, pos_mul}
use Rattle.halo_sums.proofs.IntSums.{int_sum_over-add, int_sum_over-ext, int_sum_over-flat_map, int_sum_over-map, int_sum_over-none, int_sum_over-pos, int_sum_over-scale, int_sum_over-swap}
use Rattle.halo_sums.proofs.Numbers.{int_sum_over-numbers_ext}
use Rattle.halo_model.specs.Life.{PlainLife, after_first}
use Rattle.halo_model.specs.Outcome.{Exit, Outcome, exit_weight, exits, outcomes, ways, weight}
use Rattle.halo_model.specs.Expectation.{expected}

-- a sum over what can become of a life that is alive: over its years, and in each over the causes
pub int_sum_over-ways : (T : ℕ) (x : PlainLife) (f : Option Exit → ℤ)
    → int_sum_over (ways T true x) f ≡ int_sum_over (numbers_from T (x.years_left - T))
    (λ k. int_sum_over (numbers_from 0 x.causes) (λ j. f (Some (record { year = k; cause = j }))))
int_sum_over-ways T x f = int_sum_over-map (λ e. Some e) (exits T x) f
    ∙ int_sum_over-flat_map (λ k. map (λ j. record {
      year = k;
      cause = j;
    }) (numbers_from 0 x.causes)) (numbers_from T (x.years_left - T)) (λ e. f (Some e))
    ∙ int_sum_over-ext (numbers_from T (x.years_left - T)) _ _ (λ k. int_sum_over-map (λ j. record {
      year = k;
      cause = j;
    }) (numbers_from 0 x.causes) (λ e. f (Some e)))

-- a sum over outcomes, the first life apart
pub expected-cons : (T : ℕ) (S : ℕ → Bool) (x : PlainLife) (lives : List PlainLife) (f : Outcome → ℤ)
    → expected T S (x ∷ lives) f ≡ int_sum_over (ways T (S 0) x)
    (λ way. pos (exit_weight x way) *ℤ expected T (after_first S) lives (λ o. f (way ∷ o)))
expected-cons T S x lives f =
    int_sum_over-flat_map (λ way. map (λ o. way ∷ o) rest) (ways T (S 0) x) (λ o. pos (weight (x ∷ lives) o) *ℤ f o)
    ∙ int_sum_over-ext (ways T (S 0) x) _ _ (λ way. int_sum_over-map (λ o. way ∷ o) rest
    (λ o. pos (weight (x ∷ lives) o) *ℤ f o)
    ∙ int_sum_over-ext rest _ _ (λ o. ap (λ z. z *ℤ f (way ∷ o)) (pos_mul (exit_weight x way) (weight lives o))
    ∙ mul_assoc (pos (exit_weight x way)) (pos (weight lives o)) (f (way ∷ o)))
    ∙ int_sum_over-scale rest (pos (exit_weight x way)) (λ o. pos (weight lives o) *ℤ f (way ∷ o)))
  where
    rest : List Outcome
    rest = outcomes T (after_first S) lives

-- what can become of a life from T on: nothing more where it is not alive then, else an exit in a year that its table
-- has
abbrev pub IsWay : ℕ → Bool → PlainLife → Option Exit → Type 0
IsWay T alive x None = alive ≡ false
IsWay T alive x (Some e) = (alive ≡ true) × (T ≤ e.year) × (e.year < x.years_left)

-- an outcome that can come
abbrev pub Comes : ℕ → (ℕ → Bool) → List PlainLife → Outcome → Type 0
Comes T S [] [] = Unit {0}
Comes T S (x ∷ lives) (way ∷ o) = IsWay T (S 0) x way × Comes T (after_first S) lives o
Comes _ _ _ _ = ⊥

ways-ext : (T : ℕ) (alive : Bool) (x : PlainLife) (f g : Option Exit → ℤ)
    → ((way : Option Exit) → IsWay T alive x way → f way ≡ g way)
    → int_sum_over (ways T alive x) f ≡ int_sum_over (ways T alive x) g
ways-ext T false x f g h = ap (λ z. z +ℤ pos 0) (h None refl)
ways-ext T true x f g h = int_sum_over-ways T x f
    ∙ int_sum_over-numbers_ext (x.years_left - T) T _ _
    (λ k above below. int_sum_over-ext (numbers_from 0 x.causes) _ _ (λ j. h (Some (record {
      year = k;
      cause = j;
    })) (refl, above, omega arith)))
    ∙ sym (int_sum_over-ways T x g)

-- what is equal at each outcome that can come is equal in sum
pub expected-where : (T : ℕ) (S : ℕ → Bool) (lives : List PlainLife) (f g : Outcome → ℤ)
    → ((o : Outcome) → Comes T S lives o → f o ≡ g o) → expected T S lives f ≡ expected T S lives g
expected-where T S [] f g h = ap (λ z. pos 1 *ℤ z +ℤ pos 0) (h [] tt)
expected-where T S (x ∷ lives) f g h = expected-cons T S x lives f
    ∙ ways-ext T (S 0) x _ _ (λ way is. ap (λ z. pos (exit_weight x way) *ℤ z)
    (expected-where T (after_first S) lives (λ o. f (way ∷ o)) (λ o. g (way ∷ o))
    (λ o comes. h (way ∷ o) (is, comes))))
    ∙ sym (expected-cons T S x lives g)

pub Comes-length : (T : ℕ) (S : ℕ → Bool) (lives : List PlainLife) (o : Outcome) → Comes T S lives o
    → length o ≡ length lives
Comes-length T S [] [] h = refl
Comes-length T S [] (way ∷ o) h = absurd h
Comes-length T S (x ∷ lives) [] h = absurd h
Comes-length T S (x ∷ lives) (way ∷ o) h = ap suc (Comes-length T (after_first S) lives o h.1)

-- what is equal at each outcome of so many lives is equal in sum
pub expected-ext : (T : ℕ) (S : ℕ → Bool) (lives : List PlainLife) (f g : Outcome → ℤ)
    → ((o : Outcome) → length o ≡ length lives → f o ≡ g o) → expected T S lives f ≡ expected T S lives g
expected-ext T S lives f g h = expected-where T S lives f g (λ o comes. h o (Comes-length T S lives o comes))

module _ (T : ℕ) (S : ℕ → Bool) (lives : List PlainLife) where
  -- a sum of naturals, read as one of integers
  pub expected-pos : (g : Outcome → ℕ)
      → pos (sum_over (outcomes T S lives) (λ o. weight lives o * g o)) ≡ expected T S lives (λ o. pos (g o))
  expected-pos g =
      sym (int_sum_over-pos (outcomes T S lives) (λ o. weight lives o * g o))
      ∙ int_sum_over-ext (outcomes T S lives) _ _ (λ o. pos_mul (weight lives o) (g o))

  pub expected-scale : (c : ℤ) (g : Outcome → ℤ) → expected T S lives (λ o. c *ℤ g o) ≡ c *ℤ expected T S lives g
  expected-scale c g =
      int_sum_over-ext (outcomes T S lives) _ _ (λ o. mul_left_comm (pos (weight lives o)) c (g o))
      ∙ int_sum_over-scale (outcomes T S lives) c (λ o. pos (weight lives o) *ℤ g o)

  pub expected-add : (g h : Outcome → ℤ)
      → expected T S lives (λ o. g o +ℤ h o) ≡ expected T S lives g +ℤ expected T S lives h
  expected-add g h =
      int_sum_over-ext (outcomes T S lives) _ _ (λ o. mul_add (pos (weight lives o)) (g o) (h o))
      ∙ int_sum_over-add (outcomes T S lives) (λ o. pos (weight lives o) *ℤ g o) (λ o. pos (weight lives o) *ℤ h o)

  pub expected-sum : {Y : Type 0} (ys : List Y) (f : Y → Outcome → ℤ)
      → expected T S lives (λ o. int_sum_over ys (λ y. f y o)) ≡ int_sum_over ys (λ y. expected T S lives (f y))
  expected-sum ys f =
      int_sum_over-ext (outcomes T S lives) _ _ (λ o. sym (int_sum_over-scale ys (pos (weight lives o)) (λ y. f y o)))
      ∙ int_sum_over-swap (outcomes T S lives) ys (λ o y. pos (weight lives o) *ℤ f y o)

  pub expected-none : expected T S lives (λ o. pos 0) ≡ pos 0
  expected-none =
      int_sum_over-ext (outcomes T S lives) _ _ (λ o. *ℤ-zero (pos (weight lives o)))
      ∙ int_sum_over-none (outcomes T S lives)

  -- a payment of c on the outcomes that pass a test, if it is due at all
  pub expected-paid : (due : Bool) (c : ℕ) (test : Outcome → Bool)
      → expected T S lives (λ o. pos (cond (due && test o) c 0))
      ≡ cond due (pos c *ℤ expected T S lives (λ o. indicator (test o))) (pos 0)
  expected-paid false c test = expected-none
  expected-paid true c test =
      int_sum_over-ext (outcomes T S lives) _ _ (λ o. ap (λ z. pos (weight lives o) *ℤ z) (once (test o)))
      ∙ expected-scale (pos c) (λ o. indicator (test o))
    where
      once : (passes : Bool) → pos (cond passes c 0) ≡ pos c *ℤ indicator passes
      once true = omega (arith, ints)
      once false = omega (arith, ints)
