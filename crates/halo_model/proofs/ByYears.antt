-- An insurance by any cause, without a mark, pays for each year the fall of its existence.
use Rattle.std.proofs.Common.{◌≡◌, ℕ, suc, ◌*◌, ◌<◌, ◌≤◌, arith, refl, ap, sym, ◌∙◌, List, [], ◌∷◌, length, get_or, Bool, true, false, cond, not, ◌&&◌, nat_eq, nat_le, nat_lt, Option, Some, None, ℤ, pos, ◌+ℤ◌, ◌-ℤ◌, ◌*ℤ◌}
use Rattle.std.specs.Prelude.{All}
use Rattle.std.proofs.lemmas.Bool.Decides.{nat_tests}
use Rattle.std.proofs.lemmas.Int.{ints}
use Rattle.std.proofs.lemmas.List.Elements.{All-head, All-tail, All-weaker}
use Rattle.halo_sums.specs.Sums.{indicator, int_sum_over, numbers_from, sum_over}
use Rattle.halo_sums.proofs.Integers.{mul_sub, pos_add, pos_injective, pos_mul}
use Rattle.halo_sums.proofs.IntSums.{int_sum_over-pos, int_sum_over-ext, int_sum_over-sub}
use Rattle.halo_sums.proofs.Numbers.{int_sum_over-numbers_ext}
use Rattle.halo_sums.proofs.Sums.{sum_over-ext, sum_over-none}
use Rattle.halo_status.specs.Exists.{exists}
use Rattle.halo_status.specs.Nodes.{IsLasting}
use Rattle.halo_status.specs.Pay.{PlainPay}
use Rattle.halo_status.specs.View.{is_on}
use Rattle.halo_status.specs.declared.pay.Kind.TheVariants.{Insurance}
use Rattle.halo_status.specs.declared.view.View.TheVariants.{Due}
use Rattle.halo_status.proofs.Lasting.{lasts}
use Rattle.halo_model.specs.Life.{AreLives}
use Rattle.halo_model.specs.Outcome.{Exit, Outcome, outcomes, weight}
use Rattle.halo_model.specs.There.{lives_at, there}
use Rattle.halo_model.specs.Event.{Event, leavings, lives_after, lives_before, term_ends, terms_after, terms_before, year_of}
use Rattle.halo_model.specs.Order.{rank_in}
use Rattle.halo_contract.specs.declared.ties.Ties.TheVariants.{Declared}
use Rattle.halo_model.specs.Basis.{Basis, taken}
use Rattle.halo_model.specs.Payment.{by_cause, fails_by_mark}
use Rattle.halo_model.specs.Coefficient.{view_of}
use Rattle.halo_model.specs.Value.{insurance_value, numerator, ranked_numerator, value_by_kind}
use Rattle.halo_model.specs.Expectation.{expected}
use Rattle.halo_model.specs.Part.{existing_weight, paid_for_year}
use Rattle.halo_model.specs.PartLaws.{EndBy}
use Rattle.halo_model.specs.OnePayment.{HaveOwnRanks}
use Rattle.halo_model.specs.OneEvent.{fails_in_year, falls_in_year, payments_in_year}
use Rattle.halo_model.specs.ByYears.{InsuranceByYears, TiesDoNotMatter, year_part}
use Rattle.halo_model.proofs.Annuities.{exists-weight}
use Rattle.halo_model.proofs.Expected.{Comes-length, expected-paid, expected-pos, expected-sum, expected-where}
use Rattle.halo_model.proofs.Insurances.{ExitBefore, exit-before}
use Rattle.halo_model.proofs.OneEvent.{one-event-by}
use Rattle.halo_model.proofs.YearByYear.{value-by-year}
use Rattle.halo_model.proofs.OwnRanks.{orders-give-own-ranks}

-- an indicator of what falls is the fall of the indicators
falls-by : (b c : Bool) → (c ≡ true → b ≡ true) → indicator (b && not c) ≡ indicator b -ℤ indicator c
falls-by true true h = refl
falls-by true false h = refl
falls-by false true h = absurd (let q : false ≡ true = h refl in cc)
falls-by false false h = refl

later-there : (k z : ℕ) → nat_le (suc k) z ≡ true → nat_le k z ≡ true
later-there k z h = grind (arith, nat_tests)

later-on : (k m : ℕ) → nat_lt (suc k) m ≡ true → nat_lt k m ≡ true
later-on k m h = grind (arith, nat_tests)

-- the same number for each of some things
sum-each : {X : Type 0} (f : X → ℕ) (c : ℤ) (xs : List X)
    → All (λ x. pos (f x) ≡ c) xs → pos (sum_over xs f) ≡ pos (length xs) *ℤ c
sum-each f c [] h = none c
  where
    none : (c : ℤ) → pos 0 ≡ pos 0 *ℤ c
    none c = omega (arith, ints)
sum-each f c (x ∷ xs) h = pos_add (f x) (sum_over xs f)
    ∙ ap (λ z. z +ℤ pos (sum_over xs f)) (All-head (λ x. pos (f x) ≡ c) x xs h)
    ∙ ap (λ z. c +ℤ z) (sum-each f c xs (All-tail (λ x. pos (f x) ≡ c) x xs h)) ∙ once (length xs) c
  where
    once : (n : ℕ) (c : ℤ) → c +ℤ pos n *ℤ c ≡ pos (suc n) *ℤ c
    once n c = omega (arith, ints)

module _ (b : Basis) (pay : PlainPay)
    (plain : pay.mark ≡ None) (any_cause : pay.causes ≡ None) (lasting : IsLasting pay.body) (T : ℕ) where
  abbrev paid : ℕ → ℕ
  paid k = paid_for_year b pay T k

  abbrev allowed : ℕ → Bool
  allowed k = nat_le pay.defer k && nat_le T k

  module _ (rank : ℕ → ℕ) (o : Outcome) where
    not-allowed : (k : ℕ)
        → allowed k ≡ false → (es : List Event) → sum_over es (λ e. cond (falls_in_year pay rank T o k e) 1 0) ≡ 0
    not-allowed k refused es = sum_over-ext es _ _ (λ e. ap (λ b. cond b 1 0) (none e)) ∙ sum_over-none es
      where
        never : (year : ℕ) (c f : Bool) → (nat_le pay.defer k && nat_le T k) ≡ false
            → (nat_eq year k && (nat_le pay.defer year && nat_le T year && c && f)) ≡ false
        never year c f h = each (nat_eq year k) refl
          where
            four : (d t c f : Bool) → (d && t) ≡ false → (d && t && c && f) ≡ false
            four true true c f e = absurd (cc)
            four true false c f e = refl
            four false t c f e = refl

            same : (m n : ℕ) → nat_eq m n ≡ true → m ≡ n
            same m n e = grind (arith, nat_tests)

            each : (b : Bool) → nat_eq year k ≡ b → (b && (nat_le pay.defer year && nat_le T year && c && f)) ≡ false
            each true e = rw (same year k e) (four (nat_le pay.defer k) (nat_le T k) c f h)
            each false e = refl

        none : (e : Event) → falls_in_year pay rank T o k e ≡ false
        none e = never (year_of e) (by_cause pay.causes e) (fails_by_mark pay.mark pay.body
            (lives_before rank o e) (terms_before e) (lives_after rank o e) (terms_after e)) refused

    module _ (own : HaveOwnRanks rank (length o)) where
      paid-in-year : (k : ℕ) → k < b.last_time → pos (paid k * payments_in_year pay b.last_time rank T o k)
          ≡ pos (cond (allowed k && fails_in_year pay o k) (paid k) 0)
      paid-in-year k before = each (nat_le pay.defer k) (nat_le T k) refl refl
        where
          reached : (m n : ℕ) → nat_le m n ≡ true → m ≤ n
          reached m n h = grind (arith, nat_tests)

          due : (b : Bool) (p : ℕ) → pos (p * cond b 1 0) ≡ pos (cond b p 0)
          due true p = omega (arith, ints)
          due false p = omega (arith, ints)

          none : nat_le pay.defer k && nat_le T k ≡ false
              → pos (paid k * payments_in_year pay b.last_time rank T o k) ≡ pos 0
          none refused = ap pos (ap (λ n. paid k * n) (omega (
            arith,
            not-allowed k refused (leavings 0 o),
            not-allowed k refused (term_ends b.last_time pay.body),
          )) ∙ nothing (paid k))
            where
              nothing : (n : ℕ) → n * 0 ≡ 0
              nothing n = omega arith

          each : (d t : Bool)
              → nat_le pay.defer k ≡ d → nat_le T k ≡ t → pos (paid k * payments_in_year pay b.last_time rank T o k)
              ≡ pos (cond (d && t && fails_in_year pay o k) (paid k) 0)
          each true true p q = ap (λ n. pos (paid k * n)) (one-event-by pay plain any_cause lasting rank T
              o own k b.last_time (reached T k q) (reached pay.defer k p) before) ∙ due (fails_in_year pay o k) (paid k)
          each true false p q = none (rw (p, q) refl)
          each false t p q = none (rw p refl)

      outcome-by-year : ((a : ℕ) → ExitBefore b.last_time (get_or o a None))
          → pos (insurance_value b pay rank T o) ≡ int_sum_over
          (numbers_from 0 b.last_time) (λ k. pos (cond (allowed k && fails_in_year pay o k) (paid k) 0))
      outcome-by-year before = ap pos (value-by-year pay rank T o b.last_time paid before)
          ∙ sym (int_sum_over-pos
          (numbers_from 0 b.last_time) (λ k. paid k * payments_in_year pay b.last_time rank T o k))
          ∙ int_sum_over-numbers_ext b.last_time 0 _ _ (λ k from within. paid-in-year k (omega (arith, within)))

  module _ (rule : AreLives b.lives) (kind : pay.kind ≡ Insurance) (S : ℕ → Bool) where
    -- the weight of the outcomes in which the body fails in year k
    failing-weight : (k : ℕ) → T ≤ k → expected T S b.lives (λ o. indicator (fails_in_year pay o k))
        ≡ existing_weight b pay T S k -ℤ existing_weight b pay T S (suc k)
    failing-weight k started = int_sum_over-ext (outcomes T S b.lives) _ _
        (λ o. ap (λ z. pos (weight b.lives o) *ℤ z) (falls-by (there_now o) (there_then o) (earlier o))
        ∙ mul_sub (pos (weight b.lives o)) (indicator (there_now o)) (indicator (there_then o)))
        ∙ int_sum_over-sub (outcomes T S b.lives) (λ o. pos (weight b.lives o) *ℤ indicator (there_now o))
        (λ o. pos (weight b.lives o) *ℤ indicator (there_then o))
        ∙ ap (λ z. z -ℤ expected T S b.lives (λ o. indicator (there_then o)))
        (exists-weight b rule pay plain Due (ap view_of kind) T S k started)
        ∙ ap (λ z. existing_weight b pay T S k -ℤ z)
        (exists-weight b rule pay plain Due (ap view_of kind) T S (suc k) (omega arith))
      where
        there_now : Outcome → Bool
        there_now o = exists (lives_at k o) (is_on Due k) pay.body

        there_then : Outcome → Bool
        there_then o = exists (lives_at (suc k) o) (is_on Due (suc k)) pay.body

        still : (way : Option Exit) → there (suc k) way ≡ true → there k way ≡ true
        still None h = absurd (cc)
        still (Some z) h = later-there k z.year h

        earlier : (o : Outcome) → there_then o ≡ true → there_now o ≡ true
        earlier o h = lasts (lives_at (suc k) o) (lives_at k o)
            (is_on Due (suc k)) (is_on Due k) (λ i e. still (get_or o i None) e) (later-on k) pay.body lasting h

    year-part-is : (k : ℕ)
        → expected T S b.lives (λ o. pos (cond (allowed k && fails_in_year pay o k) (paid k) 0)) ≡ year_part b pay T S k
    year-part-is k = expected-paid T S b.lives (allowed k) (paid k) (λ o. fails_in_year pay o k)
        ∙ each (nat_le pay.defer k) (nat_le T k) refl
      where
        reached : (m n : ℕ) → nat_le m n ≡ true → m ≤ n
        reached m n h = grind (arith, nat_tests)

        each : (d t : Bool) → nat_le T k ≡ t
            → cond (d && t) (pos (paid k) *ℤ expected T S b.lives (λ o. indicator (fails_in_year pay o k))) (pos 0)
            ≡ cond (d && t) (pos (paid k) *ℤ (existing_weight b pay T S k -ℤ existing_weight b pay T S (suc k))) (pos 0)
        each true true q = ap (λ z. pos (paid k) *ℤ z) (failing-weight k (reached T k q))
        each true false q = refl
        each false t q = refl

    in-order : EndBy b.last_time b.lives → (rank : ℕ → ℕ) → HaveOwnRanks rank (length b.lives)
        → pos (ranked_numerator b pay rank T S) ≡ int_sum_over (numbers_from 0 b.last_time) (year_part b pay T S)
    in-order end rank own =
        ap (λ k. pos (sum_over (outcomes T S b.lives) (λ o. weight b.lives o * value_by_kind k b pay rank T o))) kind
        ∙ expected-pos T S b.lives (insurance_value b pay rank T)
        ∙ expected-where T S b.lives _ _ (λ o comes. outcome-by-year rank o
        (rw (Comes-length T S b.lives o comes) own) (exit-before b.last_time T S b.lives end o comes))
        ∙ expected-sum T S b.lives
        (numbers_from 0 b.last_time) (λ k o. pos (cond (allowed k && fails_in_year pay o k) (paid k) 0))
        ∙ int_sum_over-ext (numbers_from 0 b.last_time) _ _ year-part-is

pub insurance-by-years : InsuranceByYears
unfolding numerator
insurance-by-years b rule end pay kind plain any_cause lasting T S =
    sum-each (λ order. ranked_numerator b pay (rank_in order) T S)
    (int_sum_over (numbers_from 0 b.last_time) (year_part b pay T S)) (taken b)
    (All-weaker (λ order. HaveOwnRanks (rank_in order) (length b.lives)) (λ order. pos
    (ranked_numerator b pay (rank_in order) T S) ≡ int_sum_over (numbers_from 0 b.last_time) (year_part b pay T S))
    (λ order own. in-order b pay plain any_cause lasting T rule kind S end (rank_in order) own)
    (taken b) (orders-give-own-ranks b.ties (length b.lives)))

pub ties-do-not-matter : TiesDoNotMatter
ties-do-not-matter b rule end pay kind plain any_cause lasting T S = pos_injective _ _ (
    insurance-by-years b rule end pay kind plain any_cause lasting T S
    ∙ ap (λ z. pos (length (taken b)) *ℤ z) (once (int_sum_over (numbers_from 0 b.last_time) (year_part b pay T S))
    ∙ sym (insurance-by-years (record b { ties = Declared }) rule end pay kind plain any_cause lasting T S))
    ∙ sym (pos_mul (length (taken b)) (numerator (record b { ties = Declared }) pay T S))
    )
  where
    once : (z : ℤ) → z ≡ pos 1 *ℤ z
    once z = omega (arith, ints)
