-- Since an insurance pays at most once, its deferrals tell when it pays, and its second moment is a sum over the years.
use Rattle.std.proofs.Common.{◌≡◌, ℕ, suc, ◌+◌, ◌*◌, ◌-◌, ◌<◌, ◌≤◌, arith, refl, ap, sym, ◌∙◌, List, [], ◌∷◌, length, Bool, true, false, cond, ◌&&◌, nat_eq, nat_le, pos, ⊎_elim, ◌-ℤ◌, ◌*ℤ◌}
use Rattle.std.specs.Prelude.{All}
use Rattle.std.proofs.Math.Path.{fun_ext}
use Rattle.std.proofs.lemmas.Bool.{cases_lt}
use Rattle.std.proofs.lemmas.Int.{ints}
use Rattle.std.proofs.lemmas.Bool.Decides.{nat_tests}
use Rattle.std.proofs.lemmas.List.Elements.{All-head, All-tail, All-weaker}
use Rattle.halo_sums.specs.Sums.{numbers_from, product_over, sum_over}
use Rattle.halo_sums.proofs.Integers.{pos_injective, pos_mul}
use Rattle.halo_sums.proofs.IntSums.{int_sum_over-ext, int_sum_over-pos}
use Rattle.halo_sums.proofs.Sums.{sum_over-add, sum_over-ext, sum_over-scale, sum_over-swap, sum_over-none}
use Rattle.halo_status.specs.Pay.{PlainPay}
use Rattle.halo_status.specs.declared.pay.Kind.TheVariants.{Insurance}
use Rattle.halo_model.specs.Outcome.{Outcome, outcomes, weight}
use Rattle.halo_model.specs.Event.{Event, leavings, lives_after, lives_before, term_ends, terms_after, terms_before, year_of}
use Rattle.halo_model.specs.Order.{rank_in}
use Rattle.halo_model.specs.Basis.{Basis, discounted, taken}
use Rattle.halo_model.specs.Payment.{by_cause, fails_by_mark, falls_on}
use Rattle.halo_model.specs.Chance.{IsValidInsurance}
use Rattle.halo_model.specs.Part.{paid_for_year}
use Rattle.halo_model.specs.PartLaws.{EndBy}
use Rattle.halo_model.specs.Value.{event_value, insurance_value, numerator, outcome_value, ranked_numerator, value_by_kind}
use Rattle.halo_model.specs.OneEvent.{falls_in_year, payments_in_year}
use Rattle.halo_model.specs.OnePayment.{HaveOwnRanks}
use Rattle.halo_model.specs.SecondMoment.{DeferralsTell, HasNoInterest, SecondMomentByDeferrals, SecondMomentByYears, level_from, paying_weight, squared, without_interest}
use Rattle.halo_model.proofs.Expected.{Comes, Comes-length, expected-pos, expected-where}
use Rattle.halo_model.proofs.Insurances.{exit-before}
use Rattle.halo_model.proofs.OnePayment.{one-payment-by}
use Rattle.halo_model.proofs.OwnRanks.{orders-give-own-ranks}
use Rattle.halo_model.proofs.YearByYear.{value-by-year}

product-one : (ks : List ℕ) (f : ℕ → ℕ) → ((k : ℕ) → f k ≡ 1) → product_over ks f ≡ 1
product-one [] f h = refl
product-one (k ∷ ks) f h = rw (h k, product-one ks f h) refl

-- without interest all payments count alike
discounts-nothing : (b : Basis) → HasNoInterest b → (T t : ℕ) → discounted b T t ≡ 1
discounts-nothing b none T t = rw (
  product-one (numbers_from T (t - T)) b.q (λ k. (none k).1),
  product-one
      (numbers_from t (b.last_time - t)) (λ k. b.p k + b.q k) (λ k. omega (arith, (none k).0, (none k).1)),
) refl

-- a deferral by one year more leaves out what comes in the year
one-year-more : (k y : ℕ) (t c f : Bool) → cond (nat_le k y && t && c && f) 1 0
    ≡ cond (nat_le (suc k) y && t && c && f) 1 0 + cond (nat_eq y k && (nat_le 0 y && t && c && f)) 1 0
one-year-more k y t c f =
    ⊎_elim before (λ from. ⊎_elim after (λ upto. in-year (omega arith)) (cases_lt k y)) (cases_lt y k)
  where
    at-least : (m n : ℕ) → m ≤ n → nat_le m n ≡ true
    at-least m n h = grind (arith, nat_tests)

    less : (m n : ℕ) → n < m → nat_le m n ≡ false
    less m n h = grind (arith, nat_tests)

    other : (m n : ℕ) → (m ≡ n → ⊥) → nat_eq m n ≡ false
    other m n h = grind (arith, nat_tests)

    same : (m n : ℕ) → m ≡ n → nat_eq m n ≡ true
    same m n h = grind (arith, nat_tests)

    nothing : (t c f : Bool) → cond (false && t && c && f) 1 0 ≡ cond (false && t && c && f) 1 0 + 0
    nothing t c f = omega arith

    all : (t c f : Bool) → cond (true && t && c && f) 1 0 ≡ cond (true && t && c && f) 1 0 + 0
    all t c f = omega arith

    only : (t c f : Bool)
        → cond (true && t && c && f) 1 0 ≡ cond (false && t && c && f) 1 0 + cond (true && (true && t && c && f)) 1 0
    only true c f = omega arith
    only false c f = omega arith

    before : y < k → cond (nat_le k y && t && c && f) 1 0
        ≡ cond (nat_le (suc k) y && t && c && f) 1 0 + cond (nat_eq y k && (nat_le 0 y && t && c && f)) 1 0
    before h = rw (less k y h, less (suc k) y (omega arith), other y k (λ e. omega arith)) (nothing t c f)

    after : k < y → cond (nat_le k y && t && c && f) 1 0
        ≡ cond (nat_le (suc k) y && t && c && f) 1 0 + cond (nat_eq y k && (nat_le 0 y && t && c && f)) 1 0
    after h = rw (at-least k y (omega arith), at-least (suc k) y h, other y k (λ e. omega arith)) (all t c f)

    in-year : y ≡ k → cond (nat_le k y && t && c && f) 1 0
        ≡ cond (nat_le (suc k) y && t && c && f) 1 0 + cond (nat_eq y k && (nat_le 0 y && t && c && f)) 1 0
    in-year e = rw (at-least k y (omega arith), less (suc k) y (omega arith), same y k e, at-least 0 y (omega arith))
        (only t c f)

module _ (b : Basis) (none : HasNoInterest b) (pay : PlainPay) (rank : ℕ → ℕ) (T k : ℕ) (o : Outcome) where
  worth-one : (m : ℕ) (e : Event)
      → event_value b (level_from pay m) rank T o e ≡ cond (falls_on (level_from pay m) rank T o e) 1 0
  worth-one m e =
      ap (λ n. cond (falls_on (level_from pay m) rank T o e) (1 * n) 0) (discounts-nothing b none T (suc (year_of e)))

  event-tells : (e : Event) → event_value b (level_from pay k) rank T o e
      ≡ event_value b (level_from pay (suc k)) rank T o e + cond (falls_in_year (level_from pay 0) rank T o k e) 1 0
  event-tells e = worth-one k e
      ∙ one-year-more k (year_of e) (nat_le T (year_of e)) (by_cause pay.causes e) (fails_by_mark pay.mark pay.body
      (lives_before rank o e) (terms_before e) (lives_after rank o e) (terms_after e))
      ∙ ap (λ n. n + cond (falls_in_year (level_from pay 0) rank T o k e) 1 0) (sym (worth-one (suc k) e))

  events-tell : (es : List Event) → sum_over es (event_value b (level_from pay k) rank T o)
      ≡ sum_over es (event_value b (level_from pay (suc k)) rank T o)
      + sum_over es (λ e. cond (falls_in_year (level_from pay 0) rank T o k e) 1 0)
  events-tell es = sum_over-ext es _ _ event-tells ∙ sum_over-add es
      (event_value b (level_from pay (suc k)) rank T o) (λ e. cond (falls_in_year (level_from pay 0) rank T o k e) 1 0)

  outcome-tells : insurance_value b (level_from pay k) rank T o
      ≡ insurance_value b (level_from pay (suc k)) rank T o + payments_in_year (level_from pay 0) b.last_time rank T o k
  outcome-tells = omega (arith, events-tell (leavings 0 o), events-tell (term_ends b.last_time pay.body))

of-kind : (b : Basis) (pay : PlainPay) → pay.kind ≡ Insurance → (m : ℕ) (rank : ℕ → ℕ) (T : ℕ) (S : ℕ → Bool)
    → ranked_numerator b (level_from pay m) rank T S
    ≡ sum_over (outcomes T S b.lives) (λ o. weight b.lives o * insurance_value b (level_from pay m) rank T o)
of-kind b pay kind m rank T S = ap (λ k. sum_over
    (outcomes T S b.lives) (λ o. weight b.lives o * value_by_kind k b (level_from pay m) rank T o)) kind

pub deferrals-tell : DeferralsTell
unfolding numerator
deferrals-tell b none pay kind T S k =
    sum_over-ext (taken b) _ _ (λ order. in-order (rank_in order))
    ∙ sum_over-add (taken b)
    (λ order. ranked_numerator b (level_from pay (suc k)) (rank_in order) T S) (λ order. paying (rank_in order))
  where
    paying : (ℕ → ℕ) → ℕ
    paying rank = sum_over
        (outcomes T S b.lives) (λ o. weight b.lives o * payments_in_year (level_from pay 0) b.last_time rank T o k)

    spread : (w m n : ℕ) → w * (m + n) ≡ w * m + w * n
    spread w m n = omega arith

    in-order : (rank : ℕ → ℕ) → ranked_numerator b (level_from pay k) rank T S
        ≡ ranked_numerator b (level_from pay (suc k)) rank T S + paying rank
    in-order rank = of-kind b pay kind k rank T S
        ∙ sum_over-ext
        (outcomes T S b.lives) _ _ (λ o. ap (λ n. weight b.lives o * n) (outcome-tells b none pay rank T k o)
        ∙ spread (weight b.lives o) (insurance_value b (level_from pay (suc k)) rank T o)
        (payments_in_year (level_from pay 0) b.last_time rank T o k))
        ∙ sum_over-add
        (outcomes T S b.lives) (λ o. weight b.lives o * insurance_value b (level_from pay (suc k)) rank T o)
        (λ o. weight b.lives o * payments_in_year (level_from pay 0) b.last_time rank T o k)
        ∙ ap (λ n. n + paying rank) (sym (of-kind b pay kind (suc k) rank T S))

-- a sum of payments of which at most one is made, squared, is the sum of their squares
none-made : (ks : List ℕ) (paid made : ℕ → ℕ) → sum_over ks made ≡ 0 → sum_over ks (λ k. paid k * made k) ≡ 0
none-made [] paid made h = refl
none-made (k ∷ ks) paid made h =
    let first : made k ≡ 0 = omega arith in
    omega (arith, ap (λ n. paid k * n) first, none-made ks paid made (omega arith))

square-of-one : (ks : List ℕ) (paid made : ℕ → ℕ)
    → sum_over ks made ≤ 1 → squared (sum_over ks (λ k. paid k * made k)) ≡ sum_over ks (λ k. squared (paid k) * made k)
square-of-one [] paid made h = refl
square-of-one (k ∷ ks) paid made h =
    ⊎_elim some (nobody (square-of-one ks paid made (omega arith))) (cases_lt 0 (made k))
  where
    some : 0 < made k → squared (paid k * made k + sum_over ks (λ k. paid k * made k))
        ≡ squared (paid k) * made k + sum_over ks (λ k. squared (paid k) * made k)
    some one =
        let is-one : made k ≡ 1 = omega arith in
        rw (is-one, none-made ks paid made (omega arith), none-made ks (λ k. squared (paid k)) made (omega arith))
        (once (paid k))
      where
        once : (n : ℕ) → (n * 1 + 0) * (n * 1 + 0) ≡ n * n * 1 + 0
        once n = omega arith

    nobody : squared (sum_over ks (λ k. paid k * made k)) ≡ sum_over ks (λ k. squared (paid k) * made k)
        → made k ≤ 0 → squared (paid k * made k + sum_over ks (λ k. paid k * made k))
        ≡ squared (paid k) * made k + sum_over ks (λ k. squared (paid k) * made k)
    nobody later none = let zero : made k ≡ 0 = omega arith in rw zero
        (rest (paid k) (sum_over ks (λ k. paid k * made k)) (sum_over ks (λ k. squared (paid k) * made k)) later)
      where
        rest : (n s q : ℕ) → s * s ≡ q → (n * 0 + s) * (n * 0 + s) ≡ n * n * 0 + q
        rest n s q e = let none : n * 0 + s ≡ s = omega arith in rw none (omega (arith, e))

all-ext : {X : Type 0} (f g : X → ℕ) (xs : List X) → All (λ x. f x ≡ g x) xs → sum_over xs f ≡ sum_over xs g
all-ext f g [] h = refl
all-ext f g (x ∷ xs) h =
    omega (arith, All-head (λ x. f x ≡ g x) x xs h, all-ext f g xs (All-tail (λ x. f x ≡ g x) x xs h))

module _ (b : Basis)
    (end : EndBy b.last_time b.lives) (pay : PlainPay) (is : IsValidInsurance pay) (T : ℕ) (S : ℕ → Bool) where
  abbrev paid : ℕ → ℕ
  paid k = paid_for_year b pay T k

  abbrev years : List ℕ
  years = numbers_from 0 b.last_time

  module _ (rank : ℕ → ℕ) (own : HaveOwnRanks rank (length b.lives)) where
    abbrev made : Outcome → ℕ → ℕ
    made o k = payments_in_year pay b.last_time rank T o k

    made-once : (o : Outcome) → Comes T S b.lives o → sum_over years (made o) ≤ 1
    made-once o comes = omega (
      arith,
      value-by-year pay rank T o b.last_time (λ k. 1) (exit-before b.last_time T S b.lives end o comes),
      sum_over-scale years 1 (made o),
      one-payment-by pay (is.valid.lasting is.kind) rank T o (rw (Comes-length T S b.lives o comes) own) b.last_time,
    )

    squares : (o : Outcome) → Comes T S b.lives o
        → squared (outcome_value b pay rank T o) ≡ sum_over years (λ k. squared (paid k) * made o k)
    squares o comes = ap (λ kind. squared (value_by_kind kind b pay rank T o)) is.kind
        ∙ ap squared (value-by-year pay rank T o b.last_time paid (exit-before b.last_time T S b.lives end o comes))
        ∙ square-of-one years paid (made o) (made-once o comes)

    in-order : sum_over (outcomes T S b.lives) (λ o. weight b.lives o * squared (outcome_value b pay rank T o))
        ≡ sum_over years (λ k. squared (paid k) * sum_over (outcomes T S b.lives) (λ o. weight b.lives o * made o k))
    in-order = pos_injective _ _ (expected-pos T S b.lives (λ o. squared (outcome_value b pay rank T o))
        ∙ expected-where T S b.lives _ _ (λ o comes. ap pos (squares o comes))
        ∙ sym (expected-pos T S b.lives (λ o. sum_over years (λ k. squared (paid k) * made o k))))
        ∙ sum_over-ext (outcomes T S b.lives) _ _
        (λ o. sym (sum_over-scale years (weight b.lives o) (λ k. squared (paid k) * made o k)))
        ∙ sum_over-swap (outcomes T S b.lives) years (λ o k. weight b.lives o * (squared (paid k) * made o k))
        ∙ sum_over-ext years _ _
        (λ k. sum_over-ext (outcomes T S b.lives) _ _ (λ o. turn (weight b.lives o) (squared (paid k)) (made o k))
        ∙ sum_over-scale (outcomes T S b.lives) (squared (paid k)) (λ o. weight b.lives o * made o k))
      where
        turn : (w p m : ℕ) → w * (p * m) ≡ p * (w * m)
        turn w p m = omega arith

pub second-moment-by-years : SecondMomentByYears
second-moment-by-years b end pay is T S =
    all-ext (λ order. sum_over (outcomes T S b.lives)
    (λ o. weight b.lives o * squared (outcome_value b pay (rank_in order) T o))) (λ order. sum_over
    (numbers_from 0 b.last_time) (λ k. squared (paid_for_year b pay T k) * paying (rank_in order) k)) (taken b)
    (All-weaker (λ order. HaveOwnRanks (rank_in order) (length b.lives)) (λ order. sum_over
    (outcomes T S b.lives) (λ o. weight b.lives o * squared (outcome_value b pay (rank_in order) T o))
    ≡ sum_over (numbers_from 0 b.last_time) (λ k. squared (paid_for_year b pay T k) * paying (rank_in order) k))
    (λ order own. in-order b end pay is T S (rank_in order) own)
    (taken b) (orders-give-own-ranks b.ties (length b.lives)))
    ∙ sum_over-swap
    (taken b) (numbers_from 0 b.last_time) (λ order k. squared (paid_for_year b pay T k) * paying (rank_in order) k)
    ∙ sum_over-ext (numbers_from 0 b.last_time) _ _
    (λ k. sum_over-scale (taken b) (squared (paid_for_year b pay T k)) (λ order. paying (rank_in order) k))
  where
    paying : (ℕ → ℕ) → ℕ → ℕ
    paying rank k =
        sum_over (outcomes T S b.lives) (λ o. weight b.lives o * payments_in_year pay b.last_time rank T o k)

-- a deferral lets through what comes in a year from it on
from-deferral : (y k d : ℕ) (t c f : Bool)
    → nat_le d k ≡ true → (nat_eq y k && (nat_le d y && t && c && f)) ≡ (nat_eq y k && (nat_le 0 y && t && c && f))
from-deferral y k d t c f h = each (nat_eq y k) refl
  where
    reached : (d y k : ℕ) → nat_eq y k ≡ true → nat_le d k ≡ true → nat_le d y ≡ nat_le 0 y
    reached d y k e h = grind (arith, nat_tests)

    each : (b : Bool) → nat_eq y k ≡ b → (b && (nat_le d y && t && c && f)) ≡ (b && (nat_le 0 y && t && c && f))
    each true e = ap (λ b. b && t && c && f) (reached d y k e h)
    each false e = refl

before-deferral : (y k d : ℕ) (t c f : Bool) → nat_le d k ≡ false → (nat_eq y k && (nat_le d y && t && c && f)) ≡ false
before-deferral y k d t c f h = each (nat_eq y k) refl
  where
    kept-back : (d y k : ℕ) → nat_eq y k ≡ true → nat_le d k ≡ false → nat_le d y ≡ false
    kept-back d y k e h = grind (arith, nat_tests)

    each : (b : Bool) → nat_eq y k ≡ b → (b && (nat_le d y && t && c && f)) ≡ false
    each true e = ap (λ b. b && t && c && f) (kept-back d y k e h)
    each false e = refl

module _ (b : Basis) (pay : PlainPay) (T : ℕ) (S : ℕ → Bool) (k : ℕ) where
  abbrev paying : ℕ
  paying = paying_weight (without_interest b) (level_from pay 0) T S k

  deferred-same : nat_le pay.defer k ≡ true → (rank : ℕ → ℕ) (o : Outcome)
      → payments_in_year pay b.last_time rank T o k ≡ payments_in_year (level_from pay 0) b.last_time rank T o k
  deferred-same h rank o = ap (λ test. sum_over (leavings 0 o) (λ e. cond (test e) 1 0)
      + sum_over (term_ends b.last_time pay.body) (λ e. cond (test e) 1 0)) (fun_ext event-same)
    where
      event-same : (e : Event) → falls_in_year pay rank T o k e ≡ falls_in_year (level_from pay 0) rank T o k e
      event-same e = from-deferral (year_of e) k pay.defer (nat_le T (year_of e)) (by_cause pay.causes e) (fails_by_mark
          pay.mark pay.body (lives_before rank o e) (terms_before e) (lives_after rank o e) (terms_after e)) h

  deferred-none : nat_le pay.defer k ≡ false
      → (rank : ℕ → ℕ) (o : Outcome) → payments_in_year pay b.last_time rank T o k ≡ 0
  deferred-none h rank o = omega (arith, none (leavings 0 o), none (term_ends b.last_time pay.body))
    where
      none : (es : List Event) → sum_over es (λ e. cond (falls_in_year pay rank T o k e) 1 0) ≡ 0
      none es = sum_over-ext es _ _ (λ e. ap (λ b. cond b 1 0)
          (before-deferral (year_of e) k pay.defer (nat_le T (year_of e)) (by_cause pay.causes e) (fails_by_mark
          pay.mark pay.body (lives_before rank o e) (terms_before e) (lives_after rank o e) (terms_after e)) h))
          ∙ sum_over-none es

  paying-from : (due : Bool) → nat_le pay.defer k ≡ due → paying_weight b pay T S k ≡ cond due paying 0
  paying-from true h = sum_over-ext (taken b) _ _ (λ order. sum_over-ext
      (outcomes T S b.lives) _ _ (λ o. ap (λ n. weight b.lives o * n) (deferred-same h (rank_in order) o)))
  paying-from false h = sum_over-ext (taken b) _ _ (λ order. sum_over-ext (outcomes T S b.lives) _ _
      (λ o. ap (λ n. weight b.lives o * n) (deferred-none h (rank_in order) o) ∙ nothing (weight b.lives o))
      ∙ sum_over-none (outcomes T S b.lives)) ∙ sum_over-none (taken b)
    where
      nothing : (n : ℕ) → n * 0 ≡ 0
      nothing n = omega arith

  year-told : pay.kind ≡ Insurance
      → (paid : ℕ) (due : Bool) → nat_le pay.defer k ≡ due → pos (paid * paying_weight b pay T S k)
      ≡ cond due (pos paid *ℤ (pos (numerator (without_interest b) (level_from pay k) T S)
      -ℤ pos (numerator (without_interest b) (level_from pay (suc k)) T S))) (pos 0)
  year-told kind paid due h = ap (λ n. pos (paid * n)) (paying-from due h) ∙ each due
    where
      tells : numerator (without_interest b) (level_from pay k) T S
          ≡ numerator (without_interest b) (level_from pay (suc k)) T S + paying
      tells = deferrals-tell (without_interest b) (λ k. (refl, refl)) pay kind T S k

      fall : (p m n x : ℕ) → m ≡ n + x → pos (p * x) ≡ pos p *ℤ (pos m -ℤ pos n)
      fall p m n x e = rw e (pos_mul p x ∙ ap (λ z. pos p *ℤ z) (less n x))
        where
          less : (n x : ℕ) → pos x ≡ pos (n + x) -ℤ pos n
          less n x = omega (arith, ints)

      nothing : (n : ℕ) → pos (n * 0) ≡ pos 0
      nothing n = omega (arith, ints)

      each : (due : Bool) → pos (paid * cond due paying 0)
          ≡ cond due (pos paid *ℤ (pos (numerator (without_interest b) (level_from pay k) T S)
          -ℤ pos (numerator (without_interest b) (level_from pay (suc k)) T S))) (pos 0)
      each true = fall paid _ _ paying tells
      each false = nothing paid

pub second-moment-by-deferrals : SecondMomentByDeferrals
second-moment-by-deferrals b end pay is T S =
    ap pos (second-moment-by-years b end pay is T S)
    ∙ sym (int_sum_over-pos
    (numbers_from 0 b.last_time) (λ k. squared (paid_for_year b pay T k) * paying_weight b pay T S k))
    ∙ int_sum_over-ext (numbers_from 0 b.last_time) _ _
    (λ k. year-told b pay T S k is.kind (squared (paid_for_year b pay T k)) (nat_le pay.defer k) refl)
