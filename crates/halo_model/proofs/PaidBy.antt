-- Nothing is paid after the horizon of a pay, so a later last time changes its value as it does each payment's worth.
use Rattle.std.proofs.Common.{◌≡◌, ℕ, zero, suc, ◌+◌, ◌-◌, ◌*◌, ◌<◌, ◌≤◌, arith, refl, ap, sym, ◌∙◌, List, [], ◌∷◌, get_or, filter, Bool, true, false, cond, ◌&&◌, nat_le, nat_lt, Option, Some, None, pos, ⊎_elim}
use Rattle.std.proofs.lemmas.Bool.{cases_lt}
use Rattle.std.proofs.lemmas.Bool.Decides.{nat_tests}
use Rattle.halo_sums.specs.Sums.{numbers_from, sum_over}
use Rattle.halo_sums.proofs.Integers.{pos_injective}
use Rattle.halo_sums.proofs.Numbers.{numbers_from-add, sum_over-numbers_none}
use Rattle.halo_sums.proofs.Sums.{sum_over-append, sum_over-map}
use Rattle.halo_status.specs.Exists.{empty_set, exists}
use Rattle.halo_status.specs.Naming.{names_life, names_term}
use Rattle.halo_status.specs.Pay.{PlainPay}
use Rattle.halo_status.specs.Tree.{Tree}
use Rattle.halo_status.specs.View.{is_on}
use Rattle.halo_status.specs.declared.pay.Kind.{Kind}
use Rattle.halo_status.specs.declared.pay.Kind.TheVariants.{Insurance, Due, Immediate}
use Rattle.halo_status.specs.declared.view.View.{View}
use Rattle.halo_status.specs.declared.view.View.TheVariants.{Due as DueView, Immediate as ImmediateView}
use Rattle.halo_status.proofs.Agreement.{agree}
use Rattle.halo_status.proofs.Empty.{nobody_there}
use Rattle.halo_model.specs.Basis.{Basis, discounted, taken}
use Rattle.halo_model.specs.Event.{Event, ends, leaves, leavings, term_ends, year_of}
use Rattle.halo_model.specs.Expectation.{HasYear}
use Rattle.halo_model.specs.Horizon.{Covers, years_left_of}
use Rattle.halo_model.specs.LastTime.{IsPaidBy, until}
use Rattle.halo_model.specs.Life.{PlainLife}
use Rattle.halo_model.specs.Order.{rank_in}
use Rattle.halo_model.specs.Outcome.{Exit, Outcome, outcomes, weight}
use Rattle.halo_model.specs.Payment.{falls_on, payment, pays_due, pays_immediate}
use Rattle.halo_model.specs.SetValue.{failing_part}
use Rattle.halo_model.specs.There.{lives_at, there}
use Rattle.halo_model.specs.Value.{due_value, event_value, immediate_value, numerator, outcome_value, ranked_numerator, value_by_kind}
use Rattle.halo_model.proofs.Expected.{Comes, expected-pos, expected-where}
use Rattle.halo_model.proofs.HorizonIsLeast.{horizon-is-least}
use Rattle.halo_model.proofs.NoChance.{unnamed-at-leaving}
use Rattle.halo_model.proofs.NoFall.{not-of-part, not-paid, part-unnamed_life}
use Rattle.halo_model.proofs.Outside.{allowed, comes-year}
use Rattle.halo_model.proofs.StartAndEnd.{asks-for-some}

-- sums of multiples by c and of multiples by d
sum-alike : {X : Type 0} (xs : List X) (f g : X → ℕ) (c d : ℕ)
    → ((x : X) → f x * c ≡ g x * d) → sum_over xs f * c ≡ sum_over xs g * d
sum-alike [] f g c d h = omega arith
sum-alike (x ∷ xs) f g c d h = omega (arith, h x, sum-alike xs f g c d h)

-- a sum of numbers that are 0 from some place on
sum-later : (f : ℕ → ℕ) (first count more : ℕ) → ((t : ℕ) → first + count ≤ t → f t ≡ 0)
    → sum_over (numbers_from first (count + more)) f ≡ sum_over (numbers_from first count) f
sum-later f first count more h = omega (
  arith,
  ap (λ ts. sum_over ts f) (numbers_from-add count more first),
  sum_over-append (numbers_from first count) (numbers_from (first + count) more) f,
  sum_over-numbers_none more (first + count) f h,
)

-- a sum over the leavings of an outcome, each of a life that leaves so
leavings-alike : (o : Outcome) (i : ℕ) (f g : Event → ℕ) (c d : ℕ)
    → ((a : ℕ) (x : Exit) → get_or o a None ≡ Some x → f (leaves (i + a) x) * c ≡ g (leaves (i + a) x) * d)
    → sum_over (leavings i o) f * c ≡ sum_over (leavings i o) g * d
leavings-alike [] i f g c d h = omega arith
leavings-alike (None ∷ o) i f g c d h = leavings-alike o (suc i) f g c d (λ a x at.
    let e : suc i + a ≡ i + suc a = omega arith in rw e (h (suc a) x at))
leavings-alike (Some x ∷ o) i f g c d h =
    let e : i + 0 ≡ i = omega arith in
    let here : f (leaves i x) * c ≡ g (leaves i x) * d = rw e at (h 0 x refl) in
    let rest = leavings-alike o (suc i) f g c d (λ a y at.
    let s : suc i + a ≡ i + suc a = omega arith in rw s (h (suc a) y at)) in
    omega (arith, here, rest)

-- a sum over those of some numbers that pass a test
sum-filter : (test : ℕ → Bool) (ns : List ℕ) (f : ℕ → ℕ)
    → sum_over (filter test ns) f ≡ sum_over ns (λ n. cond (test n) (f n) 0)
sum-filter test [] f = refl
sum-filter test (n ∷ ns) f = step (test n) (sum-filter test ns f)
  where
    step : (b : Bool) → sum_over (filter test ns) f ≡ sum_over ns (λ n. cond (test n) (f n) 0)
        → sum_over (cond b (n ∷ filter test ns) (filter test ns)) f
        ≡ cond b (f n) 0 + sum_over ns (λ n. cond (test n) (f n) 0)
    step true e = ap (λ k. f n + k) e
    step false e = omega (arith, e)

sum-ends : (last : ℕ) (body : Tree) (f : Event → ℕ) → sum_over (term_ends last body) f
    ≡ sum_over (numbers_from 1 last) (λ n. cond (names_term n body) (f (ends n)) 0)
sum-ends last body f = sum_over-map ends (filter (λ n. names_term n body) (numbers_from 1 last)) f
    ∙ sum-filter (λ n. names_term n body) (numbers_from 1 last) (λ n. f (ends n))

-- a life of the lives whose table has a year leaves within the years that it has left
year-left : (a k : ℕ) (lives : List PlainLife) → HasYear a k lives → k < years_left_of lives a
year-left a k [] has = absurd has
year-left zero k (x ∷ lives) has = has
year-left (suc a) k (x ∷ lives) has = year-left a k lives has

gone : (t year years : ℕ) → year < years → years < t → nat_le t year ≡ false
gone t year years h k = grind (arith, nat_tests)

off : (view : View) (t n years : ℕ) → n ≤ years → years < t → is_on view t n ≡ false
off DueView t n years h k = grind (arith, nat_tests)
off ImmediateView t n years h k = grind (arith, nat_tests)

-- what two tests and a third say
tested : (s t : ℕ) (a c : Bool) → (a && nat_le s t && c) ≡ true → (s ≤ t) × (c ≡ true)
tested s t true true e = (grind (arith, nat_tests), refl)
tested s t true false e = absurd (grind (arith, nat_tests))
tested s t false c e = absurd (cc)

tested-later : (s t : ℕ) (a c : Bool) → (a && nat_lt s t && c) ≡ true → (s < t) × (c ≡ true)
tested-later s t true true e = (grind (arith, nat_tests), refl)
tested-later s t true false e = absurd (grind (arith, nat_tests))
tested-later s t false c e = absurd (cc)

cond-alike : (is : Bool) (v w c d : ℕ) → (is ≡ true → v * c ≡ w * d) → cond is v 0 * c ≡ cond is w 0 * d
cond-alike true v w c d h = h refl
cond-alike false v w c d h = omega arith

regroup : (p d c : ℕ) → p * d * c ≡ p * (d * c)
regroup p d c = omega arith

-- what is paid up to the last time is worth as much in parts of which 1 has d as it is with a later last time in parts
-- of which 1 has c
pub record IsAlike (b : Basis) (later T c d : ℕ) : Type 0 where
  pub each : (t : ℕ) → T ≤ t → t ≤ b.last_time → discounted (until later b) T t * c ≡ discounted b T t * d

module _ (b : Basis) (later : ℕ) (from : b.last_time ≤ later) (T c d : ℕ) (alike : IsAlike b later T c d)
    (pay : PlainPay) (paid : IsPaidBy b.last_time b.lives pay) where
  covers : Covers b.lives pay.body b.last_time
  covers = (horizon-is-least b.lives pay.body b.last_time).0 paid.ends

  paid-alike : (t amount : ℕ) (pays : Bool) → (pays ≡ true → (T ≤ t) × (t ≤ b.last_time))
      → cond pays (amount * discounted (until later b) T t) 0 * c ≡ cond pays (amount * discounted b T t) 0 * d
  paid-alike t amount false h = omega arith
  paid-alike t amount true h =
      regroup amount (discounted (until later b) T t) c ∙ ap (λ n. amount * n) (alike.each t (h refl).0 (h refl).1)
      ∙ sym (regroup amount (discounted b T t) d)

  none-after : (pays : Bool) (n t : ℕ) → (pays ≡ true → t ≤ b.last_time) → b.last_time < t → cond pays n 0 ≡ 0
  none-after false n t h past = refl
  none-after true n t h past = absurd (omega (arith, h refl))

  -- of sums up to the one last time and up to the other, where nothing is added after the first
  longer-alike : (f g : ℕ → ℕ) (first count : ℕ) → first + count ≡ suc b.last_time
      → ((t : ℕ) → f t * c ≡ g t * d)
      → ((t : ℕ) → b.last_time < t → f t ≡ 0)
      → sum_over (numbers_from first (count + (later - b.last_time))) f * c
      ≡ sum_over (numbers_from first count) g * d
  longer-alike f g first count end each none =
      ap (λ n. n * c)
      (sum-later f first count (later - b.last_time) (λ t past. none t (omega (arith, end, past))))
      ∙ sum-alike (numbers_from first count) f g c d each

  module _ (S : ℕ → Bool) (o : Outcome) (comes : Comes T S b.lives o) where
    -- nobody named is there after the horizon
    life-gone : (t : ℕ) → b.last_time < t → (i : ℕ) → names_life i pay.body ≡ true → lives_at t o i ≡ false
    life-gone t past i named = by-way (get_or o i None) refl
      where
        by-way : (way : Option Exit) → get_or o i None ≡ way → there t way ≡ false
        by-way None e = refl
        by-way (Some x) e = gone t x.year b.last_time (omega (
          arith,
          year-left i x.year b.lives (comes-year T S b.lives o comes i x e).2,
          covers.each_life i named,
        )) past

    not-later : (view : View) (t : ℕ)
        → exists (lives_at t o) (is_on view t) pay.body ≡ true → t ≤ b.last_time
    not-later view t is = ⊎_elim
        (λ (past : b.last_time < t).
        let none : exists (lives_at t o) (is_on view t) pay.body ≡ false =
        agree (lives_at t o) empty_set (is_on view t) empty_set pay.body (life-gone t past)
        (λ n named. off view t n b.last_time (covers.each_term n named) past)
        ∙ nobody_there pay.body paid.valid.lists (asks-for-some pay.body paid.valid.ranks) in
        absurd (cc))
        (λ (before : t ≤ b.last_time). before)
        (cases_lt b.last_time t)

    due-in-time : (t : ℕ) → pays_due pay T o t ≡ true → (T ≤ t) × (t ≤ b.last_time)
    due-in-time t pays =
        let is = tested T t (nat_le pay.defer t) (exists (lives_at t o) (is_on DueView t) pay.body) pays in
        (is.0, not-later DueView t is.1)

    immediate-in-time : (t : ℕ) → pays_immediate pay T o t ≡ true → (T ≤ t) × (t ≤ b.last_time)
    immediate-in-time t pays =
        let is = tested-later T t (nat_lt pay.defer t)
        (exists (lives_at t o) (is_on ImmediateView t) pay.body) pays in
        (omega (arith, is.0), not-later ImmediateView t is.1)

    due-alike : due_value (until later b) pay T o * c
        ≡ due_value b pay T o * d
    due-alike =
        let count : suc later ≡ suc b.last_time + (later - b.last_time) = omega arith in
        ap (λ n. sum_over (numbers_from 0 n) (λ t. cond (pays_due pay T o t)
        (payment pay (t - pay.defer) * discounted (until later b) T t) 0) * c) count
        ∙ longer-alike _ _ 0 (suc b.last_time) (omega arith)
        (λ t. paid-alike t (payment pay (t - pay.defer)) (pays_due pay T o t) (due-in-time t))
        (λ t past. none-after (pays_due pay T o t) _ t (λ pays. (due-in-time t pays).1) past)

    immediate-alike : immediate_value (until later b) pay T o * c
        ≡ immediate_value b pay T o * d
    immediate-alike =
        let count : later ≡ b.last_time + (later - b.last_time) = omega arith in
        ap (λ n. sum_over (numbers_from 1 n) (λ t. cond (pays_immediate pay T o t)
        (payment pay (t - pay.defer - 1) * discounted (until later b) T t) 0) * c) count
        ∙ longer-alike _ _ 1 b.last_time (omega arith)
        (λ t. paid-alike t (payment pay (t - pay.defer - 1)) (pays_immediate pay T o t) (immediate-in-time t))
        (λ t past. none-after (pays_immediate pay T o t) _ t (λ pays. (immediate-in-time t pays).1) past)

    module _ (rank : ℕ → ℕ) where
      -- a payment on an event falls up to the last time
      event-alike : (event : Event) → (falls_on pay rank T o event ≡ true → suc (year_of event) ≤ b.last_time)
          → event_value (until later b) pay rank T o event * c
          ≡ event_value b pay rank T o event * d
      event-alike event h =
          paid-alike (suc (year_of event)) (payment pay (year_of event - pay.defer)) (falls_on pay rank T o event)
          (λ falls. (omega (arith, (allowed pay rank T o event falls).started), h falls))

      leaving-in-time : (a : ℕ) (x : Exit) → get_or o a None ≡ Some x
          → falls_on pay rank T o (leaves a x) ≡ true → suc x.year ≤ b.last_time
      leaving-in-time a x at falls = by-name (names_life a pay.body) refl
        where
          by-name : (named : Bool) → names_life a pay.body ≡ named → suc x.year ≤ b.last_time
          by-name true e = omega (
            arith,
            year-left a x.year b.lives (comes-year T S b.lives o comes a x at).2,
            covers.each_life a e,
          )
          by-name false e =
              let none : falls_on pay rank T o (leaves a x) ≡ false =
              not-paid pay rank T o (leaves a x) (λ s is. unnamed-at-leaving rank o a x s
              (not-of-part (failing_part pay.mark pay.body) (names_life a)
              (part-unnamed_life pay.mark pay.body a e) s is)) in
              absurd (cc)

      all-leavings-alike : sum_over (leavings 0 o) (event_value (until later b) pay rank T o) * c
          ≡ sum_over (leavings 0 o) (event_value b pay rank T o) * d
      all-leavings-alike = leavings-alike o 0 (event_value (until later b) pay rank T o)
          (event_value b pay rank T o) c d
          (λ a x at. let e : 0 + a ≡ a = omega arith in rw e (event-alike (leaves a x) (leaving-in-time a x at)))

      -- the value that falls on the end of a term, if the body names it
      at_end : Basis → ℕ → ℕ
      at_end basis n = cond (names_term n pay.body) (event_value basis pay rank T o (ends n)) 0

      all-ends-alike : sum_over (term_ends later pay.body) (event_value (until later b) pay rank T o) * c
          ≡ sum_over (term_ends b.last_time pay.body) (event_value b pay rank T o) * d
      unfolding at_end
      all-ends-alike =
          let count : later ≡ b.last_time + (later - b.last_time) = omega arith in
          ap (λ n. n * c) (sum-ends later pay.body (event_value (until later b) pay rank T o)
          ∙ ap (λ n. sum_over (numbers_from 1 n) (at_end (until later b))) count)
          ∙ longer-alike (at_end (until later b)) (at_end b) 1 b.last_time (omega arith)
          (λ n. cond-alike (names_term n pay.body) _ _ _ _ (λ named. event-alike (ends n)
          (λ falls. omega (arith, covers.one, covers.each_term n named))))
          (λ n past. none-after (names_term n pay.body) _ n (covers.each_term n) past)
          ∙ ap (λ n. n * d)
          (sym (sum-ends b.last_time pay.body (event_value b pay rank T o)))

      outcome-alike : (kind : Kind) → value_by_kind kind (until later b) pay rank T o * c
          ≡ value_by_kind kind b pay rank T o * d
      outcome-alike Due = due-alike
      outcome-alike Immediate = immediate-alike
      outcome-alike Insurance = omega (arith, all-leavings-alike, all-ends-alike)

  ranked-alike : (S : ℕ → Bool) (rank : ℕ → ℕ) → ranked_numerator (until later b) pay rank T S * c
      ≡ ranked_numerator b pay rank T S * d
  ranked-alike S rank =
      sym (sum-times (outcomes T S b.lives) (outcome_value (until later b) pay rank T) (c))
      ∙ pos_injective _ _ (
      expected-pos T S b.lives (λ o. outcome_value (until later b) pay rank T o * c)
      ∙ expected-where T S b.lives _ _ (λ o comes. ap pos (outcome-alike S o comes rank pay.kind))
      ∙ sym (expected-pos T S b.lives (λ o. outcome_value b pay rank T o * d)))
      ∙ sum-times (outcomes T S b.lives) (outcome_value b pay rank T) (d)
    where
      sum-times : (os : List Outcome) (value : Outcome → ℕ) (c : ℕ)
          → sum_over os (λ o. weight b.lives o * (value o * c)) ≡ sum_over os (λ o. weight b.lives o * value o) * c
      sum-times [] value c = omega arith
      sum-times (o ∷ os) value c = omega (arith, sum-times os value c)

  pub numerator-alike : (S : ℕ → Bool) → numerator (until later b) pay T S * c ≡ numerator b pay T S * d
  unfolding numerator
  numerator-alike S = sum-alike (taken b) (λ order. ranked_numerator (until later b) pay (rank_in order) T S)
      (λ order. ranked_numerator b pay (rank_in order) T S) c d (λ order. ranked-alike S (rank_in order))
