-- An insurance is worth no more than the most that it can pay at once.
use Rattle.std.proofs.Common.{◌≡◌, ℕ, zero, suc, ◌+◌, ◌*◌, ◌-◌, ◌<◌, ◌≤◌, arith, refl, ap, sym, ◌∙◌, List, [], ◌∷◌, length, get_or, Bool, true, false, cond, nat_eq, Option, Some, None, ℤ, pos}
use Rattle.std.specs.Prelude.{All}
use Rattle.std.proofs.Math.Bool.{and-true}
use Rattle.std.proofs.lemmas.Int.{ints}
use Rattle.std.proofs.lemmas.List.Elements.{All-head, All-tail, All-weaker}
use Rattle.std.proofs.lemmas.Nat.{mul-le}
use Rattle.halo_sums.specs.Sums.{int_sum_over, numbers_from, product_over, sum_over}
use Rattle.halo_sums.proofs.Integers.{pos_injective}
use Rattle.halo_sums.proofs.Numbers.{numbers_from-add}
use Rattle.halo_sums.proofs.Sums.{product_over-append, sum_over-add, sum_over-ext, sum_over-scale_right}
use Rattle.halo_status.specs.Tree.{Tree, life, term, joint, last, at_least, exactly, after}
use Rattle.halo_status.specs.Naming.{names_life, names_term}
use Rattle.halo_status.specs.Pay.{PlainPay}
use Rattle.halo_status.specs.declared.pay.Mark.{Mark}
use Rattle.halo_status.specs.declared.pay.Vary.{Vary}
use Rattle.halo_status.specs.declared.pay.Vary.TheVariants.{Level, Increasing, Decreasing}
use Rattle.halo_model.specs.Life.{AreLives, PlainLife}
use Rattle.halo_model.specs.Outcome.{Exit, Outcome, joint_survivors, outcomes, weight}
use Rattle.halo_model.specs.Event.{Event, ends, leaves, leavings, lives_after, lives_before, term_ends, terms_after, terms_before, year_of}
use Rattle.halo_model.specs.Order.{rank_in}
use Rattle.halo_model.specs.Basis.{Basis, accumulated, discounted, taken}
use Rattle.halo_model.specs.Payment.{factor, falls_on, payment}
use Rattle.halo_model.specs.Horizon.{Covers, horizon, years_left_of}
use Rattle.halo_model.specs.Counts.{greatest_factor}
use Rattle.halo_model.specs.Value.{denominator, event_value, insurance_value, numerator, ranked_numerator, value_by_kind}
use Rattle.halo_model.specs.Expectation.{HasYear}
use Rattle.halo_model.specs.Chance.{IsValidInsurance}
use Rattle.halo_model.specs.PartLaws.{EndBy}
use Rattle.halo_model.specs.Part.{end_part, leaving_part}
use Rattle.halo_model.specs.OnePayment.{EndIsBounded, EndsAreBounded, HaveOwnRanks, InsuranceIsBounded, LeavingIsBounded, LeavingsAreBounded, IsBetween, most_paid, payments_of}
use Rattle.halo_status.proofs.Agreement.{agree, each-agree}
use Rattle.halo_model.proofs.Expected.{Comes, Comes-length, expected-paid, expected-pos, expected-where}
use Rattle.halo_model.proofs.HorizonIsLeast.{horizon-is-least}
use Rattle.halo_model.proofs.Insurances.{at_exit, leaving-part-is, worth}
use Rattle.halo_model.proofs.NoChance.{other-than}
use Rattle.halo_model.proofs.OnePayment.{Each, EndsFrom, LeavesFrom, each-end, each-leaving, each-weaker, one-payment-by, paid-fails, paid-when, part_exists}
use Rattle.halo_model.proofs.Outside.{comes-year}
use Rattle.halo_model.proofs.OwnRanks.{orders-give-own-ranks}
use Rattle.halo_model.proofs.Weights.{weights-add}

-- what is waited for depends only on the lives and terms that the body names
pub part-agrees : (alive other_alive on other_on : ℕ → Bool) (mark : Option Mark) (body : Tree)
    → ((i : ℕ) → names_life i body ≡ true → alive i ≡ other_alive i)
    → ((n : ℕ) → names_term n body ≡ true → on n ≡ other_on n)
    → part_exists mark body alive on ≡ part_exists mark body other_alive other_on
part-agrees alive other_alive on other_on None body lives terms = agree alive other_alive on other_on body lives terms
part-agrees alive other_alive on other_on (Some m) (joint ms) lives terms =
    ap (λ bs. get_or bs m.member false) (each-agree alive other_alive on other_on ms lives terms)
part-agrees alive other_alive on other_on (Some m) (life i) lives terms = refl
part-agrees alive other_alive on other_on (Some m) (term n) lives terms = refl
part-agrees alive other_alive on other_on (Some m) (last ms) lives terms = refl
part-agrees alive other_alive on other_on (Some m) (at_least r ms) lives terms = refl
part-agrees alive other_alive on other_on (Some m) (exactly r ms) lives terms = refl
part-agrees alive other_alive on other_on (Some m) (after s t) lives terms = refl

-- a factor up to the horizon
factor-most : (vary : Vary) (passed k years : ℕ)
    → passed ≤ k → k < years → factor vary passed ≤ greatest_factor vary years
factor-most Level passed k years h before = omega arith
factor-most Increasing passed k years h before = omega arith
factor-most (Decreasing n) passed k years h before = omega arith

product-most : (ks : List ℕ) (f g : ℕ → ℕ) → ((k : ℕ) → f k ≤ g k) → product_over ks f ≤ product_over ks g
product-most [] f g h = omega arith
product-most (k ∷ ks) f g h = mul-le (f k) (product_over ks f) (g k) (product_over ks g) (h k) (product-most ks f g h)

-- 1 paid later is worth no more than 1 paid now
discounted-most : (b : Basis) (T t : ℕ) → T ≤ t → t ≤ b.last_time → discounted b T t ≤ accumulated b T
discounted-most b T t from within =
    let whole : accumulated b T
    ≡ product_over (numbers_from T (t - T)) (λ k. b.p k + b.q k) * accumulated b t = parts in
    let less = mul-le (product_over (numbers_from T (t - T)) b.q)
    (accumulated b t) (product_over (numbers_from T (t - T)) (λ k. b.p k + b.q k)) (accumulated b t)
    (product-most (numbers_from T (t - T)) b.q (λ k. b.p k + b.q k) (λ k. omega arith)) (omega arith) in
    omega (arith, whole, less)
  where
    parts : accumulated b T ≡ product_over (numbers_from T (t - T)) (λ k. b.p k + b.q k) * accumulated b t
    parts =
        let long : b.last_time - T ≡ (t - T) + (b.last_time - t) = omega arith in
        let there : T + (t - T) ≡ t = omega arith in
        ap (λ n. product_over (numbers_from T n) (λ k. b.p k + b.q k)) long
        ∙ ap (λ ks. product_over ks (λ k. b.p k + b.q k)) (numbers_from-add (t - T) (b.last_time - t) T)
        ∙ product_over-append
        (numbers_from T (t - T)) (numbers_from (T + (t - T)) (b.last_time - t)) (λ k. b.p k + b.q k)
        ∙ ap (λ first. product_over (numbers_from T (t - T))
        (λ k. b.p k + b.q k) * product_over (numbers_from first (b.last_time - t)) (λ k. b.p k + b.q k)) there

has-year-left : (a k : ℕ) (lives : List PlainLife) → HasYear a k lives → k < years_left_of lives a
has-year-left a k [] h = absurd h
has-year-left zero k (x ∷ lives) h = h
has-year-left (suc a) k (x ∷ lives) h = has-year-left a k lives h

year-before : (a k time : ℕ) (lives : List PlainLife) → EndBy time lives → HasYear a k lives → k < time
year-before a k time [] end h = absurd h
year-before zero k time (x ∷ lives) end h = omega (arith, end.0, h)
year-before (suc a) k time (x ∷ lives) end h = year-before a k time lives end.1 h

-- a sum over outcomes of what is bounded at each that can come
pub expected-most : (T : ℕ) (S : ℕ → Bool) (lives : List PlainLife)
    → AreLives lives → (f : Outcome → ℕ) (most : ℕ) → ((o : Outcome) → Comes T S lives o → f o ≤ most)
    → sum_over (outcomes T S lives) (λ o. weight lives o * f o) ≤ joint_survivors T S lives * most
expected-most T S lives rule f most bound =
    let filled : sum_over (outcomes T S lives) (λ o. weight lives o * (f o + (most - f o)))
    ≡ sum_over (outcomes T S lives) (λ o. weight lives o * most) =
    pos_injective _ _
    (expected-pos T S lives (λ o. f o + (most - f o)) ∙ expected-where T S lives (λ o. pos (f o + (most - f o)))
    (λ o. pos most) (λ o comes. ap pos (fill (f o) (bound o comes))) ∙ sym (expected-pos T S lives (λ o. most))) in
    let split = sum_over-ext (outcomes T S lives) (λ o. weight lives o * (f o + (most - f o)))
    (λ o. weight lives o * f o + weight lives o * (most - f o)) (λ o. omega arith)
    ∙ sum_over-add (outcomes T S lives) (λ o. weight lives o * f o) (λ o. weight lives o * (most - f o)) in
    omega (
      arith,
      filled,
      split,
      sum_over-scale_right (outcomes T S lives) most (weight lives)
          ∙ ap (λ n. n * most) (weights-add T S lives rule),
    )
  where
    fill : (n : ℕ) → n ≤ most → n + (most - n) ≡ most
    fill n h = omega arith

-- a sum over events of what is bounded at each
sum-most : (f g : Event → ℕ) (most : ℕ) (es : List Event)
    → Each (λ e. f e ≤ most * g e) es → sum_over es f ≤ most * sum_over es g
sum-most f g most [] h = omega arith
sum-most f g most (e ∷ es) h = omega (arith, h.0, sum-most f g most es h.1)

sum-each : {X : Type 0} (f : X → ℕ) (most : ℕ) (xs : List X)
    → All (λ x. f x ≤ most) xs → sum_over xs f ≤ length xs * most
sum-each f most [] h = omega arith
sum-each f most (x ∷ xs) h =
    omega (arith, All-head (λ x. f x ≤ most) x xs h, sum-each f most xs (All-tail (λ x. f x ≤ most) x xs h))

module _ (b : Basis) (pay : PlainPay) (is : IsValidInsurance pay) (rank : ℕ → ℕ) (T : ℕ) where
  abbrev years : ℕ
  years = horizon b.lives pay.body

  covers : Covers b.lives pay.body years
  covers = (horizon-is-least b.lives pay.body years).0 (omega arith)

  abbrev most : ℕ
  most = most_paid b pay * accumulated b T

  unchanged : (o : Outcome) (e : Event)
      → falls_on pay rank T o e ≡ true → part_exists pay.mark pay.body (lives_before rank o e) (terms_before e)
      ≡ part_exists pay.mark pay.body (lives_after rank o e) (terms_after e) → ⊥
  unchanged o e h same =
      let fails = paid-fails pay (is.valid.lasting is.kind) rank T o e h in
      let q : true ≡ false = sym fails.0 ∙ same ∙ fails.1 in cc

  -- a payment falls only on the leaving of a life that the body names ..
  pub paid-names-life : (o : Outcome) (a : ℕ) (x : Exit)
      → falls_on pay rank T o (leaves a x) ≡ true → names_life a pay.body ≡ true
  paid-names-life o a x h = each (names_life a pay.body) refl
    where
      each : (named : Bool) → names_life a pay.body ≡ named → named ≡ true
      each true e = refl
      each false silent = absurd (unchanged o (leaves a x) h (part-agrees _ _ _ _ pay.mark pay.body
          (λ i e. let q : nat_eq a i ≡ false = other-than a i (λ same. let f : names_life a pay.body
          ≡ true = rw (← same) e in cc) in rw q (sym (and-true (lives_before rank o (leaves a x) i))))
          (λ n e. sym (and-true (terms_before (leaves a x) n)))))

  -- .. or on the end of a term that it names
  paid-names-term : (o : Outcome) (n : ℕ) → falls_on pay rank T o (ends n) ≡ true → names_term n pay.body ≡ true
  paid-names-term o n h = each (names_term n pay.body) refl
    where
      each : (named : Bool) → names_term n pay.body ≡ named → named ≡ true
      each true e = refl
      each false silent = absurd (unchanged o (ends n) h (part-agrees _ _ _ _ pay.mark pay.body
          (λ i e. sym (and-true (lives_before rank o (ends n) i)))
          (λ m e. let q : nat_eq n m ≡ false = other-than n m (λ same. let f : names_term n pay.body
          ≡ true = rw (← same) e in cc) in rw q (sym (and-true (terms_before (ends n) m))))))

  -- what an event is worth, where it comes before the horizon and the last time
  event-most : (o : Outcome) (e : Event)
      → (falls_on pay rank T o e ≡ true → (year_of e < years) × (suc (year_of e) ≤ b.last_time))
      → event_value b pay rank T o e ≤ most * cond (falls_on pay rank T o e) 1 0
  event-most o e before = each (falls_on pay rank T o e) refl
    where
      each : (falls : Bool) → falls_on pay rank T o e ≡ falls → cond falls
          (payment pay (year_of e - pay.defer) * discounted b T (suc (year_of e))) 0 ≤ most * cond falls 1 0
      each false q = omega arith
      each true q =
          let by = before q in
          let started = paid-when pay (is.valid.lasting is.kind) rank T o e q in
          let once =
          mul-le pay.amount (factor pay.vary (year_of e - pay.defer)) pay.amount (greatest_factor pay.vary years)
          (omega arith) (factor-most pay.vary (year_of e - pay.defer) (year_of e) years (omega arith) by.0) in
          let all = mul-le (payment pay (year_of e - pay.defer)) (discounted b T (suc (year_of e))) (most_paid b pay)
          (accumulated b T) once (discounted-most b T (suc (year_of e)) (omega (arith, started)) by.1) in
          omega (arith, all)

  end-within : (o : Outcome) (n : ℕ) → 1 ≤ n → n ≤ b.last_time
      → falls_on pay rank T o (ends n) ≡ true → (year_of (ends n) < years) × (suc (year_of (ends n)) ≤ b.last_time)
  end-within o n from within h = let named = covers.each_term n (paid-names-term o n h) in
      (omega (arith, named, from), omega (arith, from, within))

  end-most : (o : Outcome) (n : ℕ)
      → 1 ≤ n → n ≤ b.last_time → event_value b pay rank T o (ends n) ≤ most * cond (falls_on pay rank T o (ends n)) 1 0
  end-most o n from within = event-most o (ends n) (end-within o n from within)

  module _ (end : EndBy b.last_time b.lives) (S : ℕ → Bool) (o : Outcome) (comes : Comes T S b.lives o) where
    leaving-most : (a : ℕ) (x : Exit) → get_or o a None ≡ Some x
        → event_value b pay rank T o (leaves a x) ≤ most * cond (falls_on pay rank T o (leaves a x)) 1 0
    leaving-most a x at = event-most o (leaves a x) (λ h. within h)
      where
        within : falls_on pay rank T o (leaves a x) ≡ true → (x.year < years) × (suc x.year ≤ b.last_time)
        within h =
            let year = (comes-year T S b.lives o comes a x at).2 in (
              omega (arith, has-year-left a x.year b.lives year, covers.each_life a (paid-names-life o a x h)),
              year-before a x.year b.last_time b.lives end year,
            )

    on-leaving : (e : Event)
        → LeavesFrom o 0 e → event_value b pay rank T o e ≤ most * cond (falls_on pay rank T o e) 1 0
    on-leaving (leaves a x) h = leaving-most a x h.2
    on-leaving (ends n) h = absurd h

    on-end : (e : Event)
        → EndsFrom 1 (1 + b.last_time) e → event_value b pay rank T o e ≤ most * cond (falls_on pay rank T o e) 1 0
    on-end (leaves a x) h = absurd h
    on-end (ends n) h = end-most o n h.0 (omega (arith, h.1))

    exit-most : (a : ℕ) (way : Option Exit) → get_or o a None ≡ way → at_exit (worth b end pay rank T S o) a way ≤ most
    exit-most a None at = omega arith
    exit-most a (Some x) at = once (falls_on pay rank T o (leaves a x)) (leaving-most a x at)
      where
        once : (falls : Bool) → event_value b pay rank T o (leaves a x) ≤ most * cond falls 1 0
            → event_value b pay rank T o (leaves a x) ≤ most
        once true h = omega (arith, h)
        once false h = omega (arith, h)

    value-most : HaveOwnRanks rank (length b.lives) → insurance_value b pay rank T o ≤ most
    value-most own =
        let leaving = sum-most (event_value b pay rank T o) (λ e. cond (falls_on pay rank T o e) 1 0) most
        (leavings 0 o) (each-weaker (LeavesFrom o 0) (λ e. event_value b pay rank T o e ≤ most * cond
        (falls_on pay rank T o e) 1 0) on-leaving (leavings 0 o) (each-leaving o 0 o (omega arith) from-start)) in
        let ending = sum-most (event_value b pay rank T o) (λ e. cond (falls_on pay rank T o e) 1 0) most
        (term_ends b.last_time pay.body) (each-weaker (EndsFrom 1 (1 + b.last_time)) (λ e. event_value
        b pay rank T o e ≤ most * cond (falls_on pay rank T o e) 1 0) on-end (term_ends b.last_time pay.body)
        (each-end (λ n. names_term n pay.body) b.last_time 1 (1 + b.last_time) (omega arith))) in
        let once = mul-le most (payments_of pay b.last_time rank T o) most 1 (omega arith) (one-payment-by pay
        (is.valid.lasting is.kind) rank T o (rw (Comes-length T S b.lives o comes) own) b.last_time) in
        omega (arith, leaving, ending, once)
      where
        from-start : (j : ℕ) → get_or o (0 + j) None ≡ get_or o j None
        from-start j = let e : 0 + j ≡ j = omega arith in ap (λ n. get_or o n None) e

between : (n most whole : ℕ) (z : ℤ) → pos n ≡ z → n ≤ most → most ≡ whole → IsBetween 0 whole z
between n most whole z e h same =
    rw (← e, ← same) (record { at_least = omega (arith, ints); at_most = omega (arith, ints, h) })

turn : (w m a : ℕ) → w * (m * a) ≡ m * (w * a)
turn w m a = omega arith

pub leaving-is-bounded : LeavingIsBounded
leaving-is-bounded b rule end pay is rank T S a = between (sum_over
    (outcomes T S b.lives) (λ o. weight b.lives o * at_exit (worth b end pay rank T S o) a (get_or o a None))) _ _ _
    (expected-pos T S b.lives (λ o. at_exit (worth b end pay rank T S o) a (get_or o a None))
    ∙ leaving-part-is b end pay rank T S a)
    (expected-most T S b.lives rule (λ o. at_exit (worth b end pay rank T S o) a (get_or o a None)) (most_paid b pay
    * accumulated b T) (λ o comes. exit-most b pay is rank T end S o comes a (get_or o a None) refl))
    (turn (joint_survivors T S b.lives) (most_paid b pay) (accumulated b T))

pub end-is-bounded : EndIsBounded
end-is-bounded b rule pay is rank T S n from within =
    between (sum_over (outcomes T S b.lives) (λ o. weight b.lives o * event_value b pay rank T o (ends n))) _ _ _
    (expected-pos T S b.lives (λ o. event_value b pay rank T o (ends n)) ∙ expected-paid T S b.lives true
    (payment pay (n - 1 - pay.defer) * discounted b T (suc (n - 1))) (λ o. falls_on pay rank T o (ends n)))
    (expected-most T S b.lives rule (λ o. event_value b pay rank T o (ends n)) (most_paid b pay * accumulated b T)
    (λ o comes. once o (falls_on pay rank T o (ends n)) (end-most b pay is rank T o n from within)))
    (turn (joint_survivors T S b.lives) (most_paid b pay) (accumulated b T))
  where
    once : (o : Outcome) (falls : Bool) → event_value b pay rank T o (ends n) ≤ most_paid b pay
        * accumulated b T * cond falls 1 0 → event_value b pay rank T o (ends n) ≤ most_paid b pay * accumulated b T
    once o true h = omega (arith, h)
    once o false h = omega (arith, h)

pub insurance-is-bounded : InsuranceIsBounded
unfolding numerator denominator
insurance-is-bounded b rule end pay is T S =
    let in-order = All-weaker (λ order. HaveOwnRanks (rank_in order) (length b.lives)) (λ order. ranked_numerator b pay
    (rank_in order) T S ≤ joint_survivors T S b.lives * (most_paid b pay * accumulated b T))
    (λ order own. omega (
      arith,
      by-kind order,
      expected-most T S b.lives rule (insurance_value b pay (rank_in order) T)
          (most_paid b pay * accumulated b T) (λ o comes. value-most b pay is (rank_in order) T end S o comes own),
    ))
    (taken b) (orders-give-own-ranks b.ties (length b.lives)) in
    let all = sum-each (λ order. ranked_numerator b pay (rank_in order) T S)
    (joint_survivors T S b.lives * (most_paid b pay * accumulated b T)) (taken b) in-order in
    omega (arith, all, place (length (taken b)) (joint_survivors T S b.lives) (most_paid b pay) (accumulated b T))
  where
    by-kind : (order : List ℕ) → ranked_numerator b pay (rank_in order) T S
        ≡ sum_over (outcomes T S b.lives) (λ o. weight b.lives o * insurance_value b pay (rank_in order) T o)
    by-kind order = ap (λ k. sum_over
        (outcomes T S b.lives) (λ o. weight b.lives o * value_by_kind k b pay (rank_in order) T o)) is.kind

    place : (n w m a : ℕ) → n * (w * (m * a)) ≡ m * (n * (w * a))
    place n w m a = omega arith

-- what is between bounds for each of some things
between-each : {X : Type 0} (most : ℕ) (f : X → ℤ) (xs : List X)
    → ((x : X) → IsBetween 0 most (f x)) → IsBetween 0 (length xs * most) (int_sum_over xs f)
between-each most f [] h = record { at_least = omega (arith, ints); at_most = omega (arith, ints) }
between-each most f (x ∷ xs) h =
    let one = h x in
    let others = between-each most f xs h in
    record {
      at_least = omega (arith, ints, one.at_least, others.at_least);
      at_most = omega (arith, ints, one.at_most, others.at_most);
    }

in-all-orders : (b : Basis) (T : ℕ) (S : ℕ → Bool) (most : ℕ) (f : List ℕ → ℤ)
    → ((order : List ℕ) → IsBetween 0 (most * (joint_survivors T S b.lives * accumulated b T)) (f order))
    → IsBetween 0 (most * denominator b T S) (int_sum_over (taken b) f)
unfolding denominator
in-all-orders b T S most f h = rw (← turn (length (taken b)) most (joint_survivors T S b.lives * accumulated b T))
    (between-each (most * (joint_survivors T S b.lives * accumulated b T)) f (taken b) h)

pub leavings-are-bounded : LeavingsAreBounded
leavings-are-bounded b rule end pay is T S a =
    in-all-orders b T S (most_paid b pay) (λ order. leaving_part b pay (rank_in order) T S a)
    (λ order. leaving-is-bounded b rule end pay is (rank_in order) T S a)

pub ends-are-bounded : EndsAreBounded
ends-are-bounded b rule pay is T S n from within =
    in-all-orders b T S (most_paid b pay) (λ order. end_part b pay (rank_in order) T S n)
    (λ order. end-is-bounded b rule pay is (rank_in order) T S n from within)
