-- The value of an insurance, event by event.
use Rattle.std.proofs.Common.{◌≡◌, ℕ, zero, suc, ◌+◌, ◌*◌, ◌-◌, ◌<◌, arith, refl, ap, sym, ◌∙◌, List, [], ◌∷◌, length, get_or, Bool, true, false, cond, ◌&&◌, nat_eq, Option, Some, None, pos, ◌+ℤ◌, ◌*ℤ◌}
use Rattle.std.proofs.lemmas.Bool.Decides.{nat_tests}
use Rattle.std.proofs.lemmas.Int.{ints}
use Rattle.halo_sums.specs.Sums.{indicator, int_sum_over, numbers_from, sum_over}
use Rattle.halo_sums.proofs.Integers.{pos_add}
use Rattle.halo_sums.proofs.IntSums.{int_sum_over-ext, int_sum_over-map, int_sum_over-none, int_sum_over-pos}
use Rattle.halo_sums.proofs.Numbers.{int_sum_over-pick, sum_over-numbers_next}
use Rattle.halo_sums.proofs.Sums.{sum_over-ext}
use Rattle.halo_status.specs.Pay.{PlainPay}
use Rattle.halo_model.specs.Life.{PlainLife, after_first}
use Rattle.halo_model.specs.Outcome.{Exit, Outcome, outcomes, weight}
use Rattle.halo_model.specs.Order.{rank_in}
use Rattle.halo_model.specs.Event.{Event, ends, leaves, leavings, term_ends}
use Rattle.halo_model.specs.Basis.{Basis, taken}
use Rattle.halo_model.specs.Payment.{falls_on}
use Rattle.halo_model.specs.Value.{event_value, insurance_value, numerator, ranked_numerator, value_by_kind}
use Rattle.halo_model.specs.Expectation.{expected}
use Rattle.halo_model.specs.Chance.{paid_at_exit, paid_on_leaving}
use Rattle.halo_model.specs.Part.{end_part, leaving_part, paid_for_year, terms_of}
use Rattle.halo_model.specs.PartLaws.{EndBy, InsuranceByParts}
use Rattle.halo_model.proofs.Expected.{Comes, Comes-length, IsWay, expected-add, expected-paid, expected-pos, expected-sum, expected-where}

abbrev pub ExitBefore : ℕ → Option Exit → Type 0
ExitBefore time None = Unit {0}
ExitBefore time (Some x) = x.year < time

pub exit-before : (time T : ℕ) (S : ℕ → Bool) (lives : List PlainLife) → EndBy time lives → (o : Outcome)
    → Comes T S lives o → (a : ℕ) → ExitBefore time (get_or o a None)
exit-before time T S [] h [] comes a = tt
exit-before time T S [] h (way ∷ o) comes a = absurd comes
exit-before time T S (x ∷ lives) h [] comes a = absurd comes
exit-before time T S (x ∷ lives) h (way ∷ o) comes zero = first way comes.0
  where
    first : (way : Option Exit) → IsWay T (S 0) x way → ExitBefore time way
    first None is = tt
    first (Some e) is = omega (arith, is.2, h.0)
exit-before time T S (x ∷ lives) h (way ∷ o) comes (suc a) = exit-before time T (after_first S) lives h.1 o comes.1 a

-- what an event function gives for a life's exit, nothing where it has none
abbrev pub at_exit : (Event → ℕ) → ℕ → Option Exit → ℕ
at_exit f a None = 0
at_exit f a (Some x) = f (leaves a x)

-- a sum over the leavings, life by life
pub sum_over-leavings : (f : Event → ℕ) (i : ℕ) (o : Outcome)
    → sum_over (leavings i o) f ≡ sum_over (numbers_from 0 (length o)) (λ a. at_exit f (i + a) (get_or o a None))
sum_over-leavings f i [] = refl
sum_over-leavings f i (way ∷ o) = first way
    ∙ ap (λ n. at_exit f i way + n) (sum_over-leavings f (suc i) o
    ∙ sum_over-ext (numbers_from 0 (length o)) _ _ (λ a. later a)
    ∙ sym (sum_over-numbers_next (length o) 0 (λ a. at_exit f (i + a) (get_or (way ∷ o) a None))))
    ∙ ap (λ n. at_exit f n way + sum_over (numbers_from 1 (length o))
    (λ a. at_exit f (i + a) (get_or (way ∷ o) a None))) here
  where
    here : i ≡ i + 0
    here = omega arith

    later : (a : ℕ) → at_exit f (suc i + a) (get_or o a None) ≡ at_exit f (i + suc a) (get_or o a None)
    later a = let e : suc i + a ≡ i + suc a = omega arith in ap (λ n. at_exit f n (get_or o a None)) e

    first : (way : Option Exit) → sum_over (leavings i (way ∷ o)) f ≡ at_exit f i way + sum_over (leavings (suc i) o) f
    first None = omega arith
    first (Some x) = refl

-- a payment for one year, as a sum over the years
pub by-year : (paid : ℕ → ℕ) (time year : ℕ) (falls : Bool) → year < time
    → pos (cond falls (paid year) 0) ≡ int_sum_over (numbers_from 0 time)
    (λ k. pos (cond (nat_eq year k && falls) (paid k) 0))
by-year paid time year falls h =
    sym (int_sum_over-pick time 0 year (λ k. pos (cond falls (paid k) 0)) (omega arith) (omega arith))
    ∙ int_sum_over-ext (numbers_from 0 time) _ _ (λ k. turn k falls (nat_eq k year) (nat_eq year k) (swapped k))
  where
    swapped : (k : ℕ) → nat_eq k year ≡ nat_eq year k
    swapped k = grind (arith, nat_tests)

    turn : (k : ℕ) (falls here is : Bool) → here ≡ is
        → indicator here *ℤ pos (cond falls (paid k) 0) ≡ pos (cond (is && falls) (paid k) 0)
    turn k falls here true e = rw e (omega (arith, ints))
    turn k falls here false e = rw e (omega (arith, ints))

module _ (b : Basis) (end : EndBy b.last_time b.lives) (pay : PlainPay) (rank : ℕ → ℕ) (T : ℕ) (S : ℕ → Bool) where
  abbrev pub paid : ℕ → ℕ
  paid k = paid_for_year b pay T k

  abbrev pub worth : Outcome → Event → ℕ
  worth o = event_value b pay rank T o

  exit-by-year : (o : Outcome) (a : ℕ) (way : Option Exit) → ExitBefore b.last_time way
      → pos (at_exit (worth o) a way) ≡ int_sum_over (numbers_from 0 b.last_time)
      (λ k. pos (cond (paid_at_exit pay rank T a k o way) (paid k) 0))
  exit-by-year o a None h = sym (int_sum_over-none (numbers_from 0 b.last_time))
  exit-by-year o a (Some x) h = by-year paid b.last_time x.year (falls_on pay rank T o (leaves a x)) h

  leavings-by-year : (o : Outcome) → Comes T S b.lives o
      → pos (sum_over (leavings 0 o) (worth o))
      ≡ int_sum_over (numbers_from 0 (length b.lives))
      (λ a. int_sum_over (numbers_from 0 b.last_time)
      (λ k. pos (cond (paid_on_leaving pay rank T a k o) (paid k) 0)))
  leavings-by-year o comes =
      ap pos (sum_over-leavings (worth o) 0 o ∙ ap
      (λ n. sum_over (numbers_from 0 n) (λ a. at_exit (worth o) (0 + a) (get_or o a None)))
      (Comes-length T S b.lives o comes))
      ∙ sym (int_sum_over-pos (numbers_from 0 (length b.lives)) (λ a. at_exit (worth o) (0 + a) (get_or o a None)))
      ∙ int_sum_over-ext (numbers_from 0 (length b.lives)) _ _
      (λ a. from-zero a ∙ exit-by-year o a (get_or o a None) (exit-before b.last_time T S b.lives end o comes a))
    where
      from-zero : (a : ℕ)
          → pos (at_exit (worth o) (0 + a) (get_or o a None)) ≡ pos (at_exit (worth o) a (get_or o a None))
      from-zero a = let e : 0 + a ≡ a = omega arith in ap (λ n. pos (at_exit (worth o) n (get_or o a None))) e

  -- what is paid on the leaving of a life is the expectation of what its exit is worth
  pub leaving-part-is : (a : ℕ)
      → expected T S b.lives (λ o. pos (at_exit (worth o) a (get_or o a None))) ≡ leaving_part b pay rank T S a
  leaving-part-is a =
      expected-where T S b.lives _ _ (λ o comes. exit-by-year o a (get_or o a None)
      (exit-before b.last_time T S b.lives end o comes a))
      ∙ expected-sum T S b.lives (numbers_from 0 b.last_time)
      (λ k o. pos (cond (paid_on_leaving pay rank T a k o) (paid k) 0))
      ∙ int_sum_over-ext (numbers_from 0 b.last_time) _ _
      (λ k. expected-paid T S b.lives true (paid k) (paid_on_leaving pay rank T a k))

  leavings-value : expected T S b.lives (λ o. pos (sum_over (leavings 0 o) (worth o)))
      ≡ int_sum_over (numbers_from 0 (length b.lives)) (leaving_part b pay rank T S)
  leavings-value = expected-where T S b.lives _ _ (λ o comes. leavings-by-year o comes)
      ∙ expected-sum T S b.lives (numbers_from 0 (length b.lives))
      (λ a o. int_sum_over (numbers_from 0 b.last_time)
      (λ k. pos (cond (paid_on_leaving pay rank T a k o) (paid k) 0)))
      ∙ int_sum_over-ext (numbers_from 0 (length b.lives)) _ _
      (λ a. expected-sum T S b.lives (numbers_from 0 b.last_time)
      (λ k o. pos (cond (paid_on_leaving pay rank T a k o) (paid k) 0))
      ∙ int_sum_over-ext (numbers_from 0 b.last_time) _ _
      (λ k. expected-paid T S b.lives true (paid k) (paid_on_leaving pay rank T a k)))

  ends-value : expected T S b.lives (λ o. pos (sum_over (term_ends b.last_time pay.body) (worth o)))
      ≡ int_sum_over (terms_of b pay) (end_part b pay rank T S)
  ends-value =
      int_sum_over-ext (outcomes T S b.lives) _ _
      (λ o. ap (λ z. pos (weight b.lives o) *ℤ z)
      (sym (int_sum_over-pos (term_ends b.last_time pay.body) (worth o))
      ∙ int_sum_over-map ends (terms_of b pay) (λ e. pos (worth o e))))
      ∙ expected-sum T S b.lives (terms_of b pay) (λ n o. pos (worth o (ends n)))
      ∙ int_sum_over-ext (terms_of b pay) _ _ (λ n. expected-paid T S b.lives true (paid (n - 1))
      (λ o. falls_on pay rank T o (ends n)))

  in-order : pos (sum_over (outcomes T S b.lives) (λ o. weight b.lives o * insurance_value b pay rank T o))
      ≡ int_sum_over (numbers_from 0 (length b.lives)) (leaving_part b pay rank T S) +ℤ int_sum_over (terms_of b pay)
      (end_part b pay rank T S)
  in-order = expected-pos T S b.lives (insurance_value b pay rank T)
      ∙ int_sum_over-ext (outcomes T S b.lives) _ _
      (λ o. ap (λ z. pos (weight b.lives o) *ℤ z)
      (pos_add (sum_over (leavings 0 o) (worth o)) (sum_over (term_ends b.last_time pay.body) (worth o))))
      ∙ expected-add T S b.lives (λ o. pos (sum_over (leavings 0 o) (worth o)))
      (λ o. pos (sum_over (term_ends b.last_time pay.body) (worth o)))
      ∙ ap (λ z. z +ℤ expected T S b.lives (λ o. pos (sum_over (term_ends b.last_time pay.body) (worth o))))
      leavings-value
      ∙ ap (λ z. int_sum_over (numbers_from 0 (length b.lives)) (leaving_part b pay rank T S) +ℤ z) ends-value

pub insurance-by-parts : InsuranceByParts
unfolding numerator
insurance-by-parts b end pay kind T S =
    sym (int_sum_over-pos (taken b) (λ order. ranked_numerator b pay (rank_in order) T S))
    ∙ int_sum_over-ext (taken b) _ _ (λ order. ap
    (λ k. pos (sum_over (outcomes T S b.lives) (λ o. weight b.lives o * value_by_kind k b pay (rank_in order) T o)))
    kind
    ∙ in-order b end pay (rank_in order) T S)
