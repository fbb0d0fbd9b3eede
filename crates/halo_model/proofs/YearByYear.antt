-- The events of an outcome on which an insurance pays, sorted by their years.
use Rattle.std.proofs.Common.{◌≡◌, ℕ, ◌+◌, ◌*◌, ◌<◌, arith, ap, sym, ◌∙◌, List, [], ◌∷◌, get_or, Bool, true, false, cond, Option, Some, None, pos, ◌+ℤ◌}
use Rattle.std.proofs.lemmas.Int.{ints}
use Rattle.halo_sums.specs.Sums.{int_sum_over, numbers_from, sum_over}
use Rattle.halo_sums.proofs.Integers.{pos_add, pos_injective}
use Rattle.halo_sums.proofs.IntSums.{int_sum_over-add, int_sum_over-ext, int_sum_over-none, int_sum_over-pos}
use Rattle.halo_status.specs.Naming.{names_term}
use Rattle.halo_status.specs.Pay.{PlainPay}
use Rattle.halo_model.specs.Outcome.{Exit, Outcome}
use Rattle.halo_model.specs.Event.{Event, ends, leaves, leavings, term_ends, year_of}
use Rattle.halo_model.specs.Payment.{falls_on}
use Rattle.halo_model.specs.OneEvent.{falls_in_year, payments_in_year}
use Rattle.halo_model.proofs.Insurances.{ExitBefore, by-year}
use Rattle.halo_model.proofs.OnePayment.{Each, EndsFrom, LeavesFrom, each-end, each-leaving, each-weaker}

-- a payment where something is due and happens
add-one : (b : Bool) (p c : ℕ) → pos (cond b p 0) +ℤ pos (p * c) ≡ pos (p * (cond b 1 0 + c))
add-one true p c = omega (arith, ints)
add-one false p c = omega (arith, ints)

module _ (pay : PlainPay) (rank : ℕ → ℕ) (T : ℕ) (o : Outcome) (last_time : ℕ) (paid : ℕ → ℕ) where
  -- what the events pay, by a payment for each year
  abbrev worth : Event → ℕ
  worth e = cond (falls_on pay rank T o e) (paid (year_of e)) 0

  abbrev count : ℕ → List Event → ℕ
  count k es = sum_over es (λ e. cond (falls_in_year pay rank T o k e) 1 0)

  events-by-year : (es : List Event) → Each (λ e. year_of e < last_time) es
      → pos (sum_over es worth) ≡ int_sum_over (numbers_from 0 last_time) (λ k. pos (paid k * count k es))
  events-by-year [] h = sym (int_sum_over-ext (numbers_from 0 last_time) _ _ (λ k. nothing (paid k))
      ∙ int_sum_over-none (numbers_from 0 last_time))
    where
      nothing : (n : ℕ) → pos (n * 0) ≡ pos 0
      nothing n = omega (arith, ints)
  events-by-year (e ∷ es) h = pos_add (worth e) (sum_over es worth)
      ∙ ap (λ z. z +ℤ pos (sum_over es worth)) (by-year paid last_time (year_of e) (falls_on pay rank T o e) h.0)
      ∙ ap (λ z. int_sum_over (numbers_from 0 last_time) (λ k. pos (cond (falls_in_year pay rank T o k e) (paid k) 0))
      +ℤ z) (events-by-year es h.1)
      ∙ sym (int_sum_over-add (numbers_from 0 last_time)
      (λ k. pos (cond (falls_in_year pay rank T o k e) (paid k) 0)) (λ k. pos (paid k * count k es)))
      ∙ int_sum_over-ext
      (numbers_from 0 last_time) _ _ (λ k. add-one (falls_in_year pay rank T o k e) (paid k) (count k es))

  -- what all events pay is a sum over the years
  pub value-by-year : ((a : ℕ) → ExitBefore last_time (get_or o a None))
      → sum_over (leavings 0 o) worth + sum_over (term_ends last_time pay.body) worth
      ≡ sum_over (numbers_from 0 last_time) (λ k. paid k * payments_in_year pay last_time rank T o k)
  value-by-year before = pos_injective _ _ (
      pos_add (sum_over (leavings 0 o) worth) (sum_over (term_ends last_time pay.body) worth)
      ∙ ap (λ z. z +ℤ pos (sum_over (term_ends last_time pay.body) worth))
      (events-by-year (leavings 0 o) (each-weaker (LeavesFrom o 0)
      (λ e. year_of e < last_time) leaving (leavings 0 o) (each-leaving o 0 o (omega arith) from-start)))
      ∙ ap (λ z. int_sum_over (numbers_from 0 last_time) (λ k. pos (paid k * count k (leavings 0 o))) +ℤ z)
      (events-by-year (term_ends last_time pay.body)
      (each-weaker (EndsFrom 1 (1 + last_time)) (λ e. year_of e < last_time) ending (term_ends last_time pay.body)
      (each-end (λ n. names_term n pay.body) last_time 1 (1 + last_time) (omega arith))))
      ∙ sym (int_sum_over-add (numbers_from 0 last_time)
      (λ k. pos (paid k * count k (leavings 0 o))) (λ k. pos (paid k * count k (term_ends last_time pay.body))))
      ∙ int_sum_over-ext (numbers_from 0 last_time) _ _
      (λ k. together (paid k) (count k (leavings 0 o)) (count k (term_ends last_time pay.body)))
      ∙ int_sum_over-pos (numbers_from 0 last_time) (λ k. paid k * payments_in_year pay last_time rank T o k)
      )
    where
      together : (p m n : ℕ) → pos (p * m) +ℤ pos (p * n) ≡ pos (p * (m + n))
      together p m n = omega (arith, ints)

      from-start : (j : ℕ) → get_or o (0 + j) None ≡ get_or o j None
      from-start j = let e : 0 + j ≡ j = omega arith in ap (λ n. get_or o n None) e

      leaving : (e : Event) → LeavesFrom o 0 e → year_of e < last_time
      leaving (leaves a x) h = by-way (get_or o a None) (before a) h.2
        where
          by-way : (way : Option Exit) → ExitBefore last_time way → way ≡ Some x → x.year < last_time
          by-way None h e = absurd (cc)
          by-way (Some y) h e = let same : y ≡ x = grind arith in rw (← same) h
      leaving (ends n) h = absurd h

      ending : (e : Event) → EndsFrom 1 (1 + last_time) e → year_of e < last_time
      ending (leaves a x) h = absurd h
      ending (ends n) h = omega (arith, h.0, h.1)
