-- What is paid from a time on depends only on the exits from then on.
use Rattle.std.proofs.Common.{◌≡◌, ℕ, suc, ◌+◌, ◌*◌, ◌-◌, ◌<◌, ◌≤◌, arith, refl, ap, sym, ◌∙◌, List, [], ◌∷◌, map, get_or, Bool, true, false, cond, not, ◌&&◌, ◌||◌, nat_eq, nat_le, nat_lt, Option, Some, None}
use Rattle.std.proofs.Math.Path.{fun_ext}
use Rattle.std.proofs.Math.Bool.{and-false}
use Rattle.std.proofs.Math.ListN.{get_or-map}
use Rattle.std.proofs.lemmas.Bool.Decides.{nat_tests}
use Rattle.halo_sums.specs.Sums.{numbers_from, sum_over}
use Rattle.halo_sums.proofs.Sums.{sum_over-ext}
use Rattle.halo_status.specs.Exists.{exists}
use Rattle.halo_status.specs.Pay.{PlainPay}
use Rattle.halo_status.specs.View.{is_on}
use Rattle.halo_status.specs.declared.pay.Kind.{Kind}
use Rattle.halo_status.specs.declared.pay.Kind.TheVariants.{Insurance, Due, Immediate}
use Rattle.halo_status.specs.declared.view.View.{View}
use Rattle.halo_status.specs.declared.view.View.TheVariants.{Due as DueView, Immediate as ImmediateView}
use Rattle.halo_model.specs.Outcome.{Exit, Outcome}
use Rattle.halo_model.specs.There.{lives_at, there}
use Rattle.halo_model.specs.Event.{Event, ends, is_leaving_of, leaves, leavings, life_not_earlier, lives_after, lives_before, term_ends, terms_after, terms_before, year_of}
use Rattle.halo_model.specs.Basis.{Basis, discounted}
use Rattle.halo_model.specs.Payment.{by_cause, fails_by_mark, falls_on, payment}
use Rattle.halo_model.specs.Value.{event_value, value_by_kind}

-- a life's exit if it comes in year T or later, else nothing
abbrev pub way_since : ℕ → Option Exit → Option Exit
way_since T None = None
way_since T (Some e) = cond (nat_le T e.year) (Some e) None

abbrev pub since : ℕ → Outcome → Outcome
since T o = map (way_since T) o

tested : (m n : ℕ) → nat_le m n ≡ true → m ≤ n
tested m n e = grind (arith, nat_tests)

gone : (m n : ℕ) → nat_le m n ≡ false → n < m
gone m n e = grind (arith, nat_tests)

past : (T t y : ℕ) → T ≤ t → y < T → nat_le t y ≡ false
past T t y h k = grind (arith, nat_tests)

there-since : (T t : ℕ) → T ≤ t → (way : Option Exit) → there t (way_since T way) ≡ there t way
there-since T t h None = refl
there-since T t h (Some e) = each (nat_le T e.year) refl
  where
    each : (stays : Bool) → nat_le T e.year ≡ stays → there t (cond stays (Some e) None) ≡ nat_le t e.year
    each true q = refl
    each false q = sym (past T t e.year h (gone T e.year q))

lives_at-since : (T t : ℕ) → T ≤ t → (o : Outcome) (i : ℕ) → lives_at t (since T o) i ≡ lives_at t o i
lives_at-since T t h o i = ap (there t) (get_or-map (way_since T) o i None) ∙ there-since T t h (get_or o i None)

earlier-leaving : (T x y : ℕ) (ranked : Bool) → T ≤ x → y < T → (nat_lt x y || (nat_eq x y && ranked)) ≡ false
earlier-leaving T x y ranked h k = grind (arith, nat_tests)

earlier-end : (T n y : ℕ) → T ≤ n - 1 → y < T → nat_lt (n - 1) y ≡ false
earlier-end T n y h k = grind (arith, nat_tests)

not_earlier-since : (rank : ℕ → ℕ) (T : ℕ) (event : Event) (i : ℕ) → T ≤ year_of event → (way : Option Exit)
    → life_not_earlier rank event i (way_since T way) ≡ life_not_earlier rank event i way
not_earlier-since rank T event i h None = refl
not_earlier-since rank T (leaves a x) i h (Some y) = each (nat_le T y.year) refl
  where
    each : (stays : Bool) → nat_le T y.year ≡ stays
        → life_not_earlier rank (leaves a x) i (cond stays (Some y) None)
        ≡ life_not_earlier rank (leaves a x) i (Some y)
    each true q = refl
    each false q = sym (earlier-leaving T x.year y.year (nat_le (rank a) (rank i)) h (gone T y.year q))
not_earlier-since rank T (ends n) i h (Some y) = each (nat_le T y.year) refl
  where
    each : (stays : Bool) → nat_le T y.year ≡ stays
        → life_not_earlier rank (ends n) i (cond stays (Some y) None) ≡ life_not_earlier rank (ends n) i (Some y)
    each true q = refl
    each false q = sym (earlier-end T n y.year h (gone T y.year q))

before-since : (rank : ℕ → ℕ) (T : ℕ) (o : Outcome) (event : Event) → T ≤ year_of event → (i : ℕ)
    → lives_before rank (since T o) event i ≡ lives_before rank o event i
before-since rank T o event h i =
    ap (life_not_earlier rank event i) (get_or-map (way_since T) o i None)
    ∙ not_earlier-since rank T event i h (get_or o i None)

falls_on-since : (pay : PlainPay) (rank : ℕ → ℕ) (T : ℕ) (o : Outcome) (event : Event)
    → falls_on pay rank T (since T o) event ≡ falls_on pay rank T o event
falls_on-since pay rank T o event = each (nat_le T (year_of event)) refl
  where
    fails_in : Outcome → Bool
    fails_in o =
        fails_by_mark pay.mark pay.body (lives_before rank o event) (terms_before event) (lives_after rank o event)
        (terms_after event)

    alike : T ≤ year_of event → fails_in (since T o) ≡ fails_in o
    alike h =
        ap (λ alive. fails_by_mark pay.mark pay.body alive (terms_before event) (lives_after rank (since T o) event)
        (terms_after event)) (fun_ext (before-since rank T o event h))
        ∙ ap (λ still_alive. fails_by_mark pay.mark pay.body (lives_before rank o event) (terms_before event)
        still_alive (terms_after event)) (fun_ext
        (λ i. ap (λ b. b && not (is_leaving_of event i)) (before-since rank T o event h i)))

    each : (started : Bool) → nat_le T (year_of event) ≡ started
        → (nat_le pay.defer (year_of event) && started && by_cause pay.causes event && fails_in (since T o))
        ≡ (nat_le pay.defer (year_of event) && started && by_cause pay.causes event && fails_in o)
    each true q =
        ap (λ b. nat_le pay.defer (year_of event) && true && by_cause pay.causes event && b)
        (alike (tested T (year_of event) q))
    each false q = rw (and-false (nat_le pay.defer (year_of event)))

none-more : (n more : ℕ) → more ≡ 0 → n ≡ more + n
none-more n more e = omega (arith, e)

module _ (b : Basis) (pay : PlainPay) (rank : ℕ → ℕ) (T : ℕ) where
  event_value-since : (o : Outcome) (event : Event)
      → event_value b pay rank T (since T o) event ≡ event_value b pay rank T o event
  event_value-since o event =
      ap (λ falls. cond falls (payment pay (year_of event - pay.defer) * discounted b T (suc (year_of event))) 0)
      (falls_on-since pay rank T o event)

  -- what came before T is worth nothing
  event_value-gone : (o : Outcome) (a : ℕ) (x : Exit) → nat_le T x.year ≡ false
      → event_value b pay rank T o (leaves a x) ≡ 0
  event_value-gone o a x q = rw (q, and-false (nat_le pay.defer x.year)) refl

  leavings-since : (all o : Outcome) (i : ℕ)
      → sum_over (leavings i (since T o)) (event_value b pay rank T all)
      ≡ sum_over (leavings i o) (event_value b pay rank T all)
  leavings-since all [] i = refl
  leavings-since all (None ∷ o) i = leavings-since all o (suc i)
  leavings-since all (Some x ∷ o) i = each (nat_le T x.year) refl (leavings-since all o (suc i))
    where
      each : (stays : Bool) → nat_le T x.year ≡ stays
          → sum_over (leavings (suc i) (since T o)) (event_value b pay rank T all)
          ≡ sum_over (leavings (suc i) o) (event_value b pay rank T all)
          → sum_over (leavings i (cond stays (Some x) None ∷ since T o)) (event_value b pay rank T all)
          ≡ event_value b pay rank T all (leaves i x) + sum_over (leavings (suc i) o) (event_value b pay rank T all)
      each true q rest = ap (λ n. event_value b pay rank T all (leaves i x) + n) rest
      each false q rest = rest ∙ none-more _ _ (event_value-gone all i x q)

  at-times : (view : View) (o : Outcome) (times : List ℕ) (deferred : ℕ → Bool) (from : ℕ → Bool)
      → ((t : ℕ) → from t ≡ true → T ≤ t) → (paid : ℕ → ℕ)
      → sum_over times (λ t. cond (deferred t && from t && exists (lives_at t (since T o)) (is_on view t) pay.body)
      (paid t) 0) ≡ sum_over times (λ t. cond
      (deferred t && from t && exists (lives_at t o) (is_on view t) pay.body) (paid t) 0)
  at-times view o times deferred from started paid =
      sum_over-ext times _ _ (λ t. ap (λ pays. cond pays (paid t) 0) (each t (from t) refl))
    where
      each : (t : ℕ) (is : Bool) → from t ≡ is
          → (deferred t && is && exists (lives_at t (since T o)) (is_on view t) pay.body)
          ≡ (deferred t && is && exists (lives_at t o) (is_on view t) pay.body)
      each t true q =
          ap (λ alive. deferred t && true && exists alive (is_on view t) pay.body)
          (fun_ext (lives_at-since T t (started t q) o))
      each t false q = rw (and-false (deferred t))

  strictly : (t : ℕ) → nat_lt T t ≡ true → T ≤ t
  strictly t e = grind (arith, nat_tests)

  pub value-since : (kind : Kind) (o : Outcome)
      → value_by_kind kind b pay rank T (since T o) ≡ value_by_kind kind b pay rank T o
  value-since Due o =
      at-times DueView o (numbers_from 0 (suc b.last_time)) (λ t. nat_le pay.defer t) (λ t. nat_le T t) (tested T)
      (λ t. payment pay (t - pay.defer) * discounted b T t)
  value-since Immediate o =
      at-times ImmediateView o (numbers_from 1 b.last_time) (λ t. nat_lt pay.defer t) (λ t. nat_lt T t) strictly
      (λ t. payment pay (t - pay.defer - 1) * discounted b T t)
  value-since Insurance o =
      ap (λ f. sum_over (leavings 0 (since T o)) f + sum_over (term_ends b.last_time pay.body) f)
      (fun_ext (event_value-since o))
      ∙ ap (λ n. n + sum_over (term_ends b.last_time pay.body) (event_value b pay rank T o)) (leavings-since o o 0)
