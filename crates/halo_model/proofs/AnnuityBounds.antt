-- Between which bounds the value of an annuity lies.
use Rattle.std.proofs.Common.{◌≡◌, ◌≢◌, ℕ, zero, suc, ◌+◌, ◌*◌, ◌-◌, ◌<◌, ◌≤◌, arith, refl, ap, sym, ◌∙◌, List, [], ◌∷◌, length, Bool, true, false, cond, nat_le, Some, None, ℤ, pos, ◌*ℤ◌, ⊎_elim}
use Rattle.std.proofs.Math.IntN.{*ℤ-zero}
use Rattle.std.proofs.Math.Nat.{mul-le-mul_right, mul-le-mul_left}
use Rattle.std.proofs.lemmas.Nat.{mul-le}
use Rattle.std.proofs.lemmas.Bool.{cases_lt}
use Rattle.std.proofs.lemmas.Bool.Decides.{nat_tests}
use Rattle.std.proofs.lemmas.Int.{ints}
use Rattle.halo_sums.specs.Sums.{indicator, numbers_from, product_over, sum_over}
use Rattle.halo_sums.specs.Sets.{sets}
use Rattle.halo_sums.proofs.Integers.{mul_assoc, pos_injective, pos_mul}
use Rattle.halo_sums.proofs.IntSums.{int_sum_over-ext, int_sum_over-none, int_sum_over-pos}
use Rattle.halo_status.specs.Exists.{exists}
use Rattle.halo_status.specs.Nodes.{HasPositiveRanks, HasShortLists}
use Rattle.halo_status.specs.Pay.{PlainPay}
use Rattle.halo_status.specs.View.{is_on}
use Rattle.halo_status.specs.declared.view.View.TheVariants.{Due as DueView}
use Rattle.halo_status.specs.declared.pay.Kind.{Kind}
use Rattle.halo_status.specs.declared.pay.Kind.TheVariants.{Insurance, Due, Immediate}
use Rattle.halo_status.specs.declared.pay.Vary.{Vary}
use Rattle.halo_status.specs.declared.pay.Vary.TheVariants.{Level, Increasing, Decreasing}
use Rattle.halo_model.specs.Life.{AreLives, PlainLife, after_first}
use Rattle.halo_model.specs.Outcome.{Outcome, joint_survivors, outcomes, weight}
use Rattle.halo_model.specs.There.{lives_at}
use Rattle.halo_model.specs.Basis.{Basis, accumulated, discounted, taken}
use Rattle.halo_model.specs.Payment.{factor, payment}
use Rattle.halo_model.specs.Coefficient.{form, view_of}
use Rattle.halo_model.specs.Part.{existing_weight}
use Rattle.halo_model.specs.Horizon.{horizon}
use Rattle.halo_model.specs.Segment.{last_time_of_form}
use Rattle.halo_model.specs.Value.{denominator, numerator}
use Rattle.halo_model.specs.Counts.{Measures, greatest_factor, measures_of, most_worth}
use Rattle.halo_model.specs.Backward.{AnnuityIsBounded, DueIsWorthOne, lies_in, may_pay, paid_at, years_passed}
use Rattle.halo_model.proofs.AfterHorizon.{nothing-after-horizon}
use Rattle.halo_model.proofs.Annuities.{exists-weight}
use Rattle.halo_model.proofs.Backward.{all-there, annuity-by-times, discounted-now, may-not-before, sets-ext, time_part}
use Rattle.halo_status.proofs.Agreement.{agree}
use Rattle.halo_model.proofs.Discounts.{accumulated-from}
use Rattle.halo_model.proofs.Expected.{Comes, expected-where}
use Rattle.halo_model.proofs.Weights.{weights-add}

-- what is paid to those who leave some lives there is at most what is paid to all
sum_over-le : {X : Type 0} (xs : List X) (f g : X → ℕ) → ((x : X) → f x ≤ g x) → sum_over xs f ≤ sum_over xs g
sum_over-le [] f g h = omega arith
sum_over-le (x ∷ xs) f g h = omega (arith, h x, sum_over-le xs f g h)

weighed : (w : ℕ) (b : Bool) → pos w *ℤ indicator b ≡ pos (cond b w 0)
weighed w true = omega (arith, ints)
weighed w false = omega (arith, ints)

cond-le : (b : Bool) (w : ℕ) → cond b w 0 ≤ w
cond-le true w = omega arith
cond-le false w = omega arith

-- a value later is worth no more
discount-le : (p q : ℕ → ℕ) (count first : ℕ)
    → product_over (numbers_from first count) q ≤ product_over (numbers_from first count) (λ k. p k + q k)
discount-le p q zero first = omega arith
discount-le p q (suc count) first = mul-le _ _ _ _ (omega arith) (discount-le p q count (suc first))

discounted-le : (b : Basis) (T t : ℕ) → T ≤ t → t ≤ b.last_time → discounted b T t ≤ accumulated b T
discounted-le b T t from before =
    rw (accumulated-from b T t from before) (mul-le-mul_right (accumulated b t) (discount-le b.p b.q (t - T) T))

may-from : (kind : Kind) (defer T t : ℕ) → may_pay kind defer T t ≡ true → T ≤ t
may-from Insurance defer T t e = absurd (cc)
may-from Due defer T t e = grind (arith, nat_tests)
may-from Immediate defer T t e = grind (arith, nat_tests)

module _ (b : Basis) (rule : AreLives b.lives) (pay : PlainPay) (plain : pay.mark ≡ None) (T : ℕ) (U : ℕ → Bool) where
  -- the weight of the outcomes in which the body exists at time t
  abbrev existing : ℕ → ℕ
  existing t = sum_over (outcomes T U b.lives)
      (λ o. cond (exists (lives_at t o) (is_on (view_of pay.kind) t) pay.body) (weight b.lives o) 0)

  existing-is : (t : ℕ) → T ≤ t → pos (existing t) ≡ existing_weight b pay T U t
  existing-is t from =
      sym (int_sum_over-pos (outcomes T U b.lives)
      (λ o. cond (exists (lives_at t o) (is_on (view_of pay.kind) t) pay.body) (weight b.lives o) 0))
      ∙ int_sum_over-ext (outcomes T U b.lives) _ _
      (λ o. sym (weighed (weight b.lives o) (exists (lives_at t o) (is_on (view_of pay.kind) t) pay.body)))
      ∙ exists-weight b rule pay plain (view_of pay.kind) refl T U t from

  existing-le : (t : ℕ) → existing t ≤ joint_survivors T U b.lives
  existing-le t = omega (
    arith,
    sum_over-le (outcomes T U b.lives) _ (weight b.lives) (λ o. cond-le
        (exists (lives_at t o) (is_on (view_of pay.kind) t) pay.body) (weight b.lives o)),
    weights-add T U b.lives rule,
  )

  -- nothing exists after the last time of the form
  existing-none : HasShortLists pay.body → HasPositiveRanks pay.body
      → (t : ℕ) → T ≤ t → last_time_of_form pay.kind (horizon b.lives pay.body) < t → existing t ≡ 0
  existing-none short ranks t from after = pos_injective (existing t) 0 (existing-is t from
      ∙ sets-ext (length b.lives) _
      (λ s. pos 0) (λ s long. ap (λ z. form pay t s *ℤ z) (all-there t T U b.lives s long) ∙ no-weight
      (lies_in s U) (form pay t s) _ _ (nothing-after-horizon b rule pay plain short ranks t after s long))
      ∙ int_sum_over-none (sets (length b.lives)))
    where
      none : (n : ℕ) → 0 * n ≡ 0
      none n = omega arith

      no-weight : (is : Bool) (c : ℤ) (j o : ℕ) → c *ℤ pos j ≡ pos 0 → c *ℤ cond is (pos (j * o)) (pos 0) ≡ pos 0
      no-weight false c j o e = *ℤ-zero c
      no-weight true c j o e = ap (λ z. c *ℤ z) (pos_mul j o)
          ∙ sym (mul_assoc c (pos j) (pos o)) ∙ ap (λ z. z *ℤ pos o) e ∙ ap pos (none o)

  -- what is paid at time t adds to the value
  abbrev paid_value : ℕ → ℕ
  paid_value t = paid_at pay T t * (discounted b T t * existing t)

  value-is : (t : ℕ) → time_part b pay T U t ≡ pos (paid_value t)
  value-is t = by-test (may_pay pay.kind pay.defer T t) refl
    where
      by-test : (may : Bool) → may_pay pay.kind pay.defer T t ≡ may → cond may
          (pos (payment pay (years_passed pay.kind pay.defer t) * discounted b T t) *ℤ existing_weight b pay T U t)
          (pos 0) ≡ pos (cond may (payment pay (years_passed pay.kind pay.defer t)) 0 * (discounted b T t * existing t))
      by-test false e = ap pos (none (discounted b T t * existing t))
        where
          none : (n : ℕ) → 0 ≡ 0 * n
          none n = omega arith
      by-test true e = ap (λ z. pos (payment pay (years_passed pay.kind pay.defer t) * discounted b T t) *ℤ z)
          (sym (existing-is t (may-from pay.kind pay.defer T t e)))
          ∙ ap pos (regroup (payment pay (years_passed pay.kind pay.defer t)) (discounted b T t) (existing t))
        where
          regroup : (p d e : ℕ) → p * d * e ≡ p * (d * e)
          regroup p d e = omega arith

  -- the value as a sum of naturals
  pub value-sums : pay.kind ≢ Insurance
      → numerator b pay T U ≡ length (taken b) * sum_over (numbers_from 0 (suc b.last_time)) paid_value
  value-sums annual = pos_injective _ _ (annuity-by-times b rule pay annual plain T U
      ∙ ap (λ z. pos (length (taken b)) *ℤ z) (int_sum_over-ext (numbers_from 0 (suc b.last_time)) _ _ value-is
      ∙ int_sum_over-pos (numbers_from 0 (suc b.last_time)) paid_value)
      ∙ sym (pos_mul (length (taken b)) (sum_over (numbers_from 0 (suc b.last_time)) paid_value)))

-- a payment of 1 is at most its greatest factor
factor-le : (vary : Vary) (passed years : ℕ) → passed ≤ years → factor vary passed ≤ greatest_factor vary years
factor-le Level passed years h = omega arith
factor-le Increasing passed years h = omega arith
factor-le (Decreasing n) passed years h = omega arith

passed-le : (kind : Kind) (defer t : ℕ) → years_passed kind defer t ≤ t
passed-le Insurance defer t = omega arith
passed-le Due defer t = omega arith
passed-le Immediate defer t = omega arith

paid-le : (pay : PlainPay)
    → pay.amount ≡ 1 → (T t years : ℕ) → t ≤ years → paid_at pay T t ≤ greatest_factor pay.vary years
paid-le pay one T t years h =
    let passed = years_passed pay.kind pay.defer t in
    let e : payment pay passed ≡ 1 * factor pay.vary passed = ap (λ (a : ℕ). a * factor pay.vary passed) one in
    omega (
      arith,
      e,
      cond-le (may_pay pay.kind pay.defer T t) (payment pay passed),
      factor-le pay.vary passed years (omega (arith, h, passed-le pay.kind pay.defer t)),
    )

last-le : (kind : Kind) (years : ℕ) → last_time_of_form kind years ≤ years
last-le Insurance years = omega arith
last-le Due years = omega arith
last-le Immediate years = omega arith

-- a sum of numbers that are at most a bound up to a last place, and 0 after it
one-until : (n rest bound last first : ℕ) → (first ≤ last → n ≤ bound)
    → (last < first → n ≡ 0) → rest ≤ (suc last - suc first) * bound → n + rest ≤ (suc last - first) * bound
one-until n rest bound last first most none h = ⊎_elim
    (λ (early : first < suc last).
    let e : suc last - first ≡ suc (suc last - suc first) = omega arith in
    rw e (omega (arith, most (omega arith), h)))
    (λ (late : suc last ≤ first).
    let y : suc last - suc first ≡ 0 = omega arith in
    omega (arith, none (omega arith), rw y at h))
    (cases_lt first (suc last))

sum-until : (f : ℕ → ℕ) (bound last count first : ℕ)
    → ((t : ℕ) → t < first + count → t ≤ last → f t ≤ bound) → ((t : ℕ) → t < first + count → last < t → f t ≡ 0)
    → sum_over (numbers_from first count) f ≤ (suc last - first) * bound
sum-until f bound last zero first most none = omega arith
sum-until f bound last (suc count) first most none =
    one-until (f first) _ bound last first (most first (omega arith)) (none first (omega arith))
    (sum-until f bound last count (suc first) (λ t below. most t (omega arith)) (λ t below. none t (omega arith)))

-- a sum is at least each of its numbers
sum-above : (f : ℕ → ℕ) (count first t : ℕ)
    → first ≤ t → t < first + count → f t ≤ sum_over (numbers_from first count) f
sum-above f zero first t from below = absurd (omega arith)
sum-above f (suc count) first t from below = ⊎_elim
    (λ (later : first < t). omega (arith, sum-above f count (suc first) t (omega arith) (omega arith)))
    (λ (here : t ≤ first). let e : t ≡ first = omega arith in rw e (omega arith))
    (cases_lt first t)

paid-none : (may : Bool) (n k : ℕ) → may ≡ false → cond may n 0 * k ≡ 0
paid-none may n k e = rw e (omega arith)

times-none : (p d e : ℕ) → e ≡ 0 → p * (d * e) ≡ 0
times-none p d e h = rw h (omega arith)

worth : (kind : Kind)
    → kind ≢ Insurance → (m : Measures) (n : ℕ) → suc m.horizon * (m.factor * n) ≤ most_worth kind m * n
unfolding most_worth
worth Insurance annual m n = absurd (annual refl)
worth Due annual m n = omega arith
worth Immediate annual m n = omega arith

pub annuity-is-bounded : AnnuityIsBounded
unfolding denominator most_worth
annuity-is-bounded b rule pay annual plain one short ranks T in_time U =
    let whole : ℕ = joint_survivors T U b.lives * accumulated b T in
    let years : ℕ = horizon b.lives pay.body in
    let last : ℕ = last_time_of_form pay.kind years in
    let top : ℕ = greatest_factor pay.vary years in
    let all_of_it : suc last - 0 ≡ suc last = omega arith in
    let sum = rw all_of_it at (sum-until
    (paid_value b rule pay plain T U) (top * whole) last (suc b.last_time) 0 each after) in
    let few : suc last * (top * whole) ≤ suc years * (top * whole) =
    mul-le-mul_right (top * whole) (omega (arith, last-le pay.kind years)) in
    let worth_is : suc years * (top * whole) ≤ most_worth pay.kind (measures_of b pay) * whole =
    worth pay.kind annual (measures_of b pay) whole in
    let all : sum_over (numbers_from 0 (suc b.last_time)) (paid_value b rule pay plain T U)
    ≤ most_worth pay.kind (measures_of b pay) * whole = omega (arith, sum, few, worth_is) in
    let orders : length (taken b) * sum_over (numbers_from 0 (suc b.last_time)) (paid_value b rule pay plain T U)
    ≤ length (taken b) * (most_worth pay.kind (measures_of b pay) * whole) =
    mul-le-mul_left (length (taken b)) all in
    rw (value-sums b rule pay plain T U annual) (omega (arith, orders))
  where
    each : (t : ℕ) → t < 0 + suc b.last_time
        → t ≤ last_time_of_form pay.kind (horizon b.lives pay.body) → paid_value b rule pay plain T U t
        ≤ greatest_factor pay.vary (horizon b.lives pay.body) * (joint_survivors T U b.lives * accumulated b T)
    each t below early = ⊎_elim
        (λ (before : t < T). omega (
          arith,
          paid-none (may_pay pay.kind pay.defer T t) (payment pay (years_passed pay.kind pay.defer t))
              (discounted b T t * existing b rule pay plain T U t) (may-not-before pay.kind pay.defer T t before),
        ))
        (λ (from : T ≤ t).
        let d : discounted b T t * existing b rule pay plain T U t ≤ accumulated b T * joint_survivors T U b.lives =
        mul-le _ _ _ _ (discounted-le b T t from (omega arith)) (existing-le b rule pay plain T U t) in
        let p : paid_at pay T t ≤ greatest_factor pay.vary (horizon b.lives pay.body) = paid-le pay one T t
        (horizon b.lives pay.body) (omega (arith, early, last-le pay.kind (horizon b.lives pay.body))) in
        omega (arith, mul-le _ _ _ _ p d))
        (cases_lt t T)

    after : (t : ℕ) → t < 0 + suc b.last_time
        → last_time_of_form pay.kind (horizon b.lives pay.body) < t → paid_value b rule pay plain T U t ≡ 0
    after t below late = ⊎_elim
        (λ (before : t < T). paid-none
        (may_pay pay.kind pay.defer T t) (payment pay (years_passed pay.kind pay.defer t))
        (discounted b T t * existing b rule pay plain T U t) (may-not-before pay.kind pay.defer T t before))
        (λ (from : T ≤ t). times-none (paid_at pay T t) (discounted b T t)
        (existing b rule pay plain T U t) (existing-none b rule pay plain T U short ranks t from late))
        (cases_lt t T)

-- at the start exactly the living lives are there
alive-now : (T : ℕ) (U : ℕ → Bool) (lives : List PlainLife) (o : Outcome)
    → Comes T U lives o → (i : ℕ) → i < length lives → lives_at T o i ≡ U i
alive-now T U [] o comes i below = absurd (omega arith)
alive-now T U (x ∷ lives) [] comes i below = absurd comes
alive-now T U (x ∷ lives) (None ∷ o) comes zero below = sym comes.0
alive-now T U (x ∷ lives) (Some e ∷ o) comes zero below = let from = comes.0.1 in
    from-start T e.year from ∙ sym comes.0.0
  where
    from-start : (T year : ℕ) → T ≤ year → nat_le T year ≡ true
    from-start T year h = grind (arith, nat_tests)
alive-now T U (x ∷ lives) (way ∷ o) comes (suc i) below = alive-now T (after_first U) lives o comes.1 i (omega arith)

due-now : (T : ℕ) → may_pay Due 0 T T ≡ true
due-now T = grind (arith, nat_tests)

pub due-is-worth-one : DueIsWorthOne
unfolding denominator
due-is-worth-one b rule pay due plain one level at_once below T in_time U is =
    let paid : paid_at pay T T ≡ 1 = pays-one pay.kind pay.defer pay.vary pay.amount due at_once level one in
    let all : existing b rule pay plain T U T ≡ joint_survivors T U b.lives = pos_injective _ _ exists-all in
    let here : paid_value b rule pay plain T U T ≡ accumulated b T * joint_survivors T U b.lives =
    rw (paid, all, discounted-now b T) (omega arith) in
    let sum = sum-above (paid_value b rule pay plain T U) (suc b.last_time) 0 T (omega arith) (omega arith) in
    let orders : length (taken b) * (accumulated b T * joint_survivors T U b.lives)
    ≤ length (taken b) * sum_over (numbers_from 0 (suc b.last_time)) (paid_value b rule pay plain T U) =
    mul-le-mul_left (length (taken b)) (omega (arith, here, sum)) in
    rw (value-sums b rule pay plain T U (λ e. absurd (cc (sym due ∙ e)))) (omega (arith, orders))
  where
    pays-one : (kind : Kind) (defer : ℕ) (vary : Vary) (amount : ℕ) → kind ≡ Due → defer ≡ 0 → vary ≡ Level
        → amount ≡ 1 → cond (may_pay kind defer T T) (amount * factor vary (years_passed kind defer T)) 0 ≡ 1
    pays-one kind defer vary amount e f g h = rw (e, f, g, h, due-now T) (omega arith)

    view-is : view_of pay.kind ≡ DueView
    view-is = ap view_of due

    same : (o : Outcome)
        → Comes T U b.lives o → indicator (exists (lives_at T o) (is_on (view_of pay.kind) T) pay.body) ≡ pos 1
    same o comes = ap indicator (
        ap (λ view. exists (lives_at T o) (is_on view T) pay.body) view-is
        ∙ agree (lives_at T o) U (is_on DueView T)
        (is_on DueView T) pay.body (λ i named. alive-now T U b.lives o comes i (below i named)) (λ n named. refl)
        ∙ is)

    exists-all : pos (existing b rule pay plain T U T) ≡ pos (joint_survivors T U b.lives)
    exists-all =
        sym (int_sum_over-pos (outcomes T U b.lives)
        (λ o. cond (exists (lives_at T o) (is_on (view_of pay.kind) T) pay.body) (weight b.lives o) 0))
        ∙ int_sum_over-ext (outcomes T U b.lives) _ _
        (λ o. sym (weighed (weight b.lives o) (exists (lives_at T o) (is_on (view_of pay.kind) T) pay.body)))
        ∙ expected-where T U b.lives
        (λ o. indicator (exists (lives_at T o) (is_on (view_of pay.kind) T) pay.body)) (λ o. pos 1) same
        ∙ int_sum_over-ext (outcomes T U b.lives) _ (λ o. pos (weight b.lives o)) (λ o. whole (weight b.lives o))
        ∙ int_sum_over-pos (outcomes T U b.lives) (weight b.lives)
        ∙ ap pos (weights-add T U b.lives rule)
      where
        whole : (w : ℕ) → pos w *ℤ pos 1 ≡ pos w
        whole w = omega (arith, ints)
