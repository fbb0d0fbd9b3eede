-- What an insurance pays for the events of one year, by the sets of the lives alive.
use Rattle.std.proofs.Common.{◌≡◌, ◌⊎◌, ℕ, zero, suc, ◌<◌, ◌≤◌, arith, refl, ap, sym, ◌∙◌, List, [], ◌∷◌, length, Bool, true, false, cond, ◌&&◌, nat_le, nat_lt, Option, None, Some, ℤ, pos, ◌*ℤ◌, ◌-ℤ◌, ⊎_elim, inl, inr}
use Rattle.std.proofs.Math.Path.{fun_ext}
use Rattle.std.proofs.lemmas.Bool.{cases_lt}
use Rattle.std.proofs.lemmas.Bool.Decides.{nat_tests}
use Rattle.std.proofs.lemmas.Int.{ints}
use Rattle.halo_sums.specs.Sums.{indicator, int_sum_over, numbers_from}
use Rattle.halo_sums.specs.Sets.{in_set, sets, subsets}
use Rattle.halo_sums.specs.Coefficients.{coefficient}
use Rattle.halo_sums.proofs.Coefficients.{coefficients-add, coefficients-unique}
use Rattle.halo_sums.proofs.IntSums.{int_sum_over-ext, int_sum_over-none, int_sum_over-scale, int_sum_over-scale_right, int_sum_over-sub, int_sum_over-swap}
use Rattle.halo_sums.proofs.Numbers.{int_sum_over-numbers_ext}
use Rattle.halo_status.specs.Pay.{PlainPay}
use Rattle.halo_status.specs.Naming.{names_life, names_term}
use Rattle.halo_model.specs.Backward.{outside}
use Rattle.halo_model.specs.Life.{AreLives, PlainLife, after_first, leavers_by}
use Rattle.halo_model.specs.Outcome.{joint_survivors}
use Rattle.halo_model.specs.Event.{ends}
use Rattle.halo_model.specs.Payment.{by_cause, falls_on}
use Rattle.halo_model.specs.Coefficient.{existence_with, form}
use Rattle.halo_model.specs.Expectation.{HasYear, all_there, all_there_at_leaving, expected, looked_at, survivors_if, whole_if}
use Rattle.halo_model.specs.Chance.{IsValidInsurance, asked, ending, paid_on_leaving}
use Rattle.halo_model.specs.SetValue.{SomeEvents, can_fall_on_life, can_fall_on_term, ending_weight, failing_part, holds_of, leaving_weight}
use Rattle.halo_model.proofs.Leavers.{leavers_by-past}
use Rattle.halo_model.proofs.Apart.{LiesIn, LiesIn-length, absent-leaving, apart-leaving, apart-there, beyond-leaving, beyond-there, subsets-ext, sum-within, there-survivors, zero-after}
use Rattle.halo_model.proofs.Ends.{chance-on-end}
use Rattle.halo_model.proofs.Falls.{chance-on-leaving}
use Rattle.halo_model.proofs.NoFall.{no-chance-on-end, no-chance-on-leaving, of-marked}
use Rattle.halo_model.proofs.Outside.{no-chance-on-end-outside, no-chance-on-leaving-outside}

-- life a is one of the lives, and nobody leaves as it does in year k by one of some causes
abbrev NoneLeaves : (ℕ → Bool) → ℕ → ℕ → List PlainLife → Type 0
NoneLeaves causes a k [] = ⊥
NoneLeaves causes zero k (x ∷ lives) = leavers_by causes x k ≡ 0
NoneLeaves causes (suc a) k (x ∷ lives) = NoneLeaves causes a k lives

no-times : (z : ℤ) → pos 0 *ℤ z ≡ pos 0
no-times z = omega (arith, ints)

none-leaving : (causes : ℕ → Bool)
    (a k : ℕ) (times : ℕ → ℕ) (T : ℕ) (S : ℕ → Bool) (lives : List PlainLife) (s : List Bool)
    → length s ≡ length lives → NoneLeaves causes a k lives → all_there_at_leaving a causes k times T S lives s ≡ pos 0
none-leaving causes a k times T S [] s len none = absurd none
none-leaving causes a k times T S (x ∷ lives) [] len none = absurd (omega (arith, len))
none-leaving causes zero k times T S (x ∷ lives) (true ∷ s) len none =
    rw none (no-times (all_there (after_first times) T (after_first S) lives s))
none-leaving causes zero k times T S (x ∷ lives) (false ∷ s) len none =
    no-times (all_there (after_first times) T (after_first S) lives s)
none-leaving causes (suc a) k times T S (x ∷ lives) (true ∷ s) len none = zero-after (survivors_if (S 0) x (times 0)) _
    (none-leaving causes a k (after_first times) T (after_first S) lives s (omega (arith, len)) none)
none-leaving causes (suc a) k times T S (x ∷ lives) (false ∷ s) len none = zero-after (whole_if (S 0) x T) _
    (none-leaving causes a k (after_first times) T (after_first S) lives s (omega (arith, len)) none)

-- a life has a year in its table, or nobody leaves as it does then
year-or-none : (causes : ℕ → Bool) (a k : ℕ) (lives : List PlainLife) → AreLives lives → a < length lives
    → HasYear a k lives ⊎ ((HasYear a k lives → ⊥) × NoneLeaves causes a k lives)
year-or-none causes a k [] rule within = absurd (omega (arith, within))
year-or-none causes zero k (x ∷ lives) rule within = ⊎_elim
    (λ before. inl before)
    (λ past. inr ((λ before. absurd (omega arith)), leavers_by-past causes x rule.0 k past))
    (cases_lt k x.years_left)
year-or-none causes (suc a) k (x ∷ lives) rule within = year-or-none causes a k lives rule.1 (omega (arith, within))

-- the coefficients of a difference
coefficient-difference : (f g : List Bool → ℤ) (s : List Bool)
    → coefficient (λ u. f u -ℤ g u) s ≡ coefficient f s -ℤ coefficient g s
coefficient-difference f g s = sym (coefficients-unique (λ u. f u -ℤ g u) (λ s. coefficient f s -ℤ coefficient g s)
    (λ u. int_sum_over-sub (subsets u) (coefficient f) (coefficient g) ∙ ap (λ z. z -ℤ int_sum_over
    (subsets u) (coefficient g)) (coefficients-add f u) ∙ ap (λ z. f u -ℤ z) (coefficients-add g u)) s)

not-reached : (m n : ℕ) → nat_le m n ≡ false → m ≤ n → ⊥
not-reached m n e h = absurd (grind (arith, nat_tests))

is-reached : (m n : ℕ) → nat_le m n ≡ true → m ≤ n
is-reached m n e = grind (arith, nat_tests)

module _ (pay : PlainPay) (is : IsValidInsurance pay) (T : ℕ)
    (lives : List PlainLife) (rule : AreLives lives) (alive : List Bool) (len : length alive ≡ length lives) where
  -- the survivors at T of the lives alive that are not in a set
  abbrev pub others : List Bool → ℤ
  others s = pos (joint_survivors T (outside (in_set alive) s) lives)

  lies-length : (s : List Bool) → LiesIn alive s → length s ≡ length lives
  lies-length s lies = LiesIn-length alive s lies ∙ len

  all-none : (f : List Bool → ℤ)
      → ((s : List Bool) → LiesIn alive s → f s ≡ pos 0) → int_sum_over (subsets alive) f ≡ pos 0
  all-none f none = subsets-ext alive f (λ s. pos 0) none ∙ int_sum_over-none (subsets alive)

  module _ (rank : ℕ → ℕ) (k : ℕ) where
    -- the weight with which life a leaves, for a set alone
    abbrev pub leaves_from : ℕ → List Bool → ℤ
    leaves_from a s = all_there_at_leaving a (asked pay.causes) k (looked_at rank a k) k (in_set s) lives s

    abbrev paid_for : ℕ → ℤ
    paid_for a = int_sum_over (subsets alive) (λ s. form pay k s *ℤ (leaves_from a s *ℤ others s))

    abbrev pub chance : ℕ → ℤ
    chance a = expected T (in_set alive) lives (λ o. indicator (paid_on_leaving pay rank T a k o))

    by-subsets : (a : ℕ) → in_set alive a ≡ true → int_sum_over (sets (length lives)) (λ s. form pay k s
        *ℤ all_there_at_leaving a (asked pay.causes) k (looked_at rank a k) T (in_set alive) lives s) ≡ paid_for a
    by-subsets a here = ap (λ n. int_sum_over (sets n) (λ s. form pay k s
        *ℤ all_there_at_leaving a (asked pay.causes) k (looked_at rank a k) T (in_set alive) lives s)) (sym len)
        ∙ sum-within alive (λ s. form pay k s *ℤ all_there_at_leaving a
        (asked pay.causes) k (looked_at rank a k) T (in_set alive) lives s) (λ s beyond. zero-after (form pay k s) _
        (beyond-leaving a (asked pay.causes) k (looked_at rank a k) T lives alive s len here beyond))
        ∙ subsets-ext alive _ _ (λ s lies. ap (λ z. form pay k s *ℤ z)
        (apart-leaving T k a (asked pay.causes) k (looked_at rank a k) lives alive s len lies))

    no-payment : (a : ℕ) → ((s : List Bool) → LiesIn alive s → leaves_from a s ≡ pos 0) → paid_for a ≡ pos 0
    no-payment a none =
        all-none _ (λ s lies. zero-after (form pay k s) _ (ap (λ z. z *ℤ others s) (none s lies) ∙ no-times (others s)))

    -- the chance that a payment falls on the leaving of life a
    leaving-chance : (a : ℕ) → a < length lives
        → chance a ≡ cond (nat_le pay.defer k && nat_le T k && can_fall_on_life pay a) (paid_for a) (pos 0)
    leaving-chance a within = each (nat_le pay.defer k) (nat_le T k) (can_fall_on_life pay a) refl refl refl
      where
        present : pay.defer ≤ k
            → T ≤ k → can_fall_on_life pay a ≡ true → (there : Bool) → in_set alive a ≡ there → chance a ≡ paid_for a
        present deferred started falls false e = no-chance-on-leaving-outside pay rank T a k
            (in_set alive) lives (λ here s d y. absurd (let q : false ≡ true = rw (← e) here in cc))
            ∙ sym (no-payment a (λ s lies. absent-leaving a
            (asked pay.causes) k (looked_at rank a k) k (in_set s) lives alive s len within e lies))
        present deferred started falls true e = ⊎_elim
            (λ year. chance-on-leaving pay is rank T a k deferred started
            (of-marked pay.mark pay.body (names_life a) falls) (in_set alive) e lives rule year ∙ by-subsets a e)
            (λ past. no-chance-on-leaving-outside pay rank T a k (in_set alive) lives (λ here s d y. past.0 y)
            ∙ sym (no-payment a (λ s lies. none-leaving
            (asked pay.causes) a k (looked_at rank a k) k (in_set s) lives s (lies-length s lies) past.1)))
            (year-or-none (asked pay.causes) a k lives rule within)

        each : (d t f : Bool) → nat_le pay.defer k ≡ d
            → nat_le T k ≡ t → can_fall_on_life pay a ≡ f → chance a ≡ cond (d && t && f) (paid_for a) (pos 0)
        each false t f p q r =
            no-chance-on-leaving-outside pay rank T a k (in_set alive) lives (λ here s d y. not-reached pay.defer k p d)
        each true false f p q r =
            no-chance-on-leaving-outside pay rank T a k (in_set alive) lives (λ here s d y. not-reached T k q s)
        each true true false p q r = no-chance-on-leaving pay rank T (in_set alive) lives a k r
        each true true true p q r = present (is-reached pay.defer k p) (is-reached T k q) r (in_set alive a) refl

    -- .. on the leavings of the year that are looked at
    pub leavings-of-year : (events : SomeEvents)
        → int_sum_over (numbers_from 0 (length lives)) (λ a. cond (events.lives a) (chance a) (pos 0))
        ≡ cond (nat_le pay.defer k && nat_le T k) (int_sum_over
        (subsets alive) (λ s. form pay k s *ℤ (leaving_weight pay events rank lives k s *ℤ others s))) (pos 0)
    leavings-of-year events =
        int_sum_over-numbers_ext (length lives) 0 _ _
        (λ a from before. ap (λ z. cond (events.lives a) z (pos 0)) (leaving-chance a (omega arith))
        ∙ regroup (nat_le pay.defer k) (nat_le T k) (can_fall_on_life pay a) (events.lives a) (paid_for a))
        ∙ allowed (nat_le pay.defer k && nat_le T k)
      where
        regroup : (d t f e : Bool) (z : ℤ)
            → cond e (cond (d && t && f) z (pos 0)) (pos 0) ≡ cond (d && t) (cond (e && f) z (pos 0)) (pos 0)
        regroup true true f true z = refl
        regroup true true f false z = refl
        regroup true false f true z = refl
        regroup true false f false z = refl
        regroup false t f true z = refl
        regroup false t f false z = refl

        counted : ℕ → List Bool → ℤ
        counted a s = cond (events.lives a && can_fall_on_life pay a) (leaves_from a s) (pos 0)

        inward : (c : Bool) (a : ℕ) → cond c (paid_for a) (pos 0)
            ≡ int_sum_over (subsets alive) (λ s. form pay k s *ℤ (cond c (leaves_from a s) (pos 0) *ℤ others s))
        inward true a = refl
        inward false a = sym (all-none _ (λ s lies. zero-after (form pay k s) _ (no-times (others s))))

        allowed : (due : Bool) → int_sum_over (numbers_from 0 (length lives))
            (λ a. cond due (cond (events.lives a && can_fall_on_life pay a) (paid_for a) (pos 0)) (pos 0))
            ≡ cond due (int_sum_over (subsets alive) (λ s. form pay k s
            *ℤ (int_sum_over (numbers_from 0 (length lives)) (λ a. counted a s) *ℤ others s))) (pos 0)
        allowed false = int_sum_over-none (numbers_from 0 (length lives))
        allowed true = int_sum_over-ext
            (numbers_from 0 (length lives)) _ _ (λ a. inward (events.lives a && can_fall_on_life pay a) a)
            ∙ int_sum_over-swap
            (numbers_from 0 (length lives)) (subsets alive) (λ a s. form pay k s *ℤ (counted a s *ℤ others s))
            ∙ int_sum_over-ext (subsets alive) _ _ (λ s. int_sum_over-scale (numbers_from 0 (length lives))
            (form pay k s) (λ a. counted a s *ℤ others s) ∙ ap (λ z. form pay k s *ℤ z)
            (int_sum_over-scale_right (numbers_from 0 (length lives)) (others s) (λ a. counted a s)))

    abbrev pub end_chance : ℤ
    end_chance = expected T (in_set alive) lives (λ o. indicator (falls_on pay rank T o (ends (suc k))))

    abbrev pub lost : List Bool → ℤ
    lost s = form pay k s -ℤ form pay (suc k) s

    -- what the form loses with a term is what it loses from one time to the next
    lost-with-term : (s : List Bool) → coefficient (ending pay (suc k)) s ≡ lost s
    unfolding form
    lost-with-term s = rw is.kind
        (ap (λ on. coefficient (λ u. existence_with pay on u -ℤ existence_with pay (λ m. nat_lt (suc k) m) u) s)
        (fun_ext (λ m. on-now m))
        ∙ coefficient-difference (existence_with pay (λ m. nat_lt k m)) (existence_with pay (λ m. nat_lt (suc k) m)) s)
      where
        on-now : (m : ℕ) → nat_le (suc k) m ≡ nat_lt k m
        on-now m = grind (arith, nat_tests)

    abbrev paid_at_end : ℤ
    paid_at_end =
        int_sum_over (subsets alive) (λ s. lost s *ℤ (pos (joint_survivors (suc k) (in_set s) lives) *ℤ others s))

    end-by-subsets : int_sum_over (sets (length lives))
        (λ s. coefficient (ending pay (suc k)) s *ℤ all_there (λ i. suc k) T (in_set alive) lives s) ≡ paid_at_end
    end-by-subsets = ap (λ n. int_sum_over
        (sets n) (λ s. coefficient (ending pay (suc k)) s *ℤ all_there (λ i. suc k) T (in_set alive) lives s)) (sym len)
        ∙ sum-within alive (λ s. coefficient (ending pay (suc k)) s *ℤ all_there (λ i. suc k) T (in_set alive) lives s)
        (λ s beyond. zero-after
        (coefficient (ending pay (suc k)) s) _ (beyond-there (λ i. suc k) T lives alive s len beyond))
        ∙ subsets-ext alive _ _
        (λ s lies. ap (λ z. z *ℤ all_there (λ i. suc k) T (in_set alive) lives s) (lost-with-term s)
        ∙ ap (λ z. lost s *ℤ z) (apart-there T k (λ i. suc k) lives alive s len lies
        ∙ ap (λ z. z *ℤ others s) (there-survivors (suc k) k lives s (lies-length s lies))))

    -- the chance that a payment falls on the end of a term in the year
    term-chance : end_chance
        ≡ cond (nat_le pay.defer k && nat_le T k && can_fall_on_term pay (suc k)) paid_at_end (pos 0)
    term-chance = each (nat_le pay.defer k) (nat_le T k) (can_fall_on_term pay (suc k)) refl refl refl
      where
        allowed : (by part : Bool) → (by && part) ≡ true → (by ≡ true) × (part ≡ true)
        allowed true part e = (refl, e)
        allowed false part e = absurd (cc)

        each : (d t f : Bool) → nat_le pay.defer k ≡ d
            → nat_le T k ≡ t → can_fall_on_term pay (suc k) ≡ f → end_chance ≡ cond (d && t && f) paid_at_end (pos 0)
        each false t f p q r = no-chance-on-end-outside pay rank T
            (suc k) (in_set alive) lives (λ c d s. not-reached pay.defer k p (omega arith))
        each true false f p q r =
            no-chance-on-end-outside pay rank T (suc k) (in_set alive) lives (λ c d s. not-reached T k q (omega arith))
        each true true false p q r = no-chance-on-end pay rank T (in_set alive) lives (suc k) r
        each true true true p q r =
            let both = allowed (by_cause pay.causes (ends (suc k)))
            (holds_of (failing_part pay.mark pay.body) (names_term (suc k))) r in
            let deferred = is-reached pay.defer k p in
            let started = is-reached T k q in
            chance-on-end pay is (no-cause pay.causes both.0) rank T (suc k) (omega arith) (omega arith)
            (omega arith) (of-marked pay.mark pay.body (names_term (suc k)) both.1) (in_set alive) lives rule
            ∙ end-by-subsets
          where
            no-cause : (causes : Option ℕ) → by_cause causes (ends (suc k)) ≡ true → causes ≡ None
            no-cause None e = refl
            no-cause (Some c) e = absurd (cc)

    -- .. where it is looked at
    pub ends-of-year : (events : SomeEvents) → cond (events.terms (suc k)) end_chance (pos 0)
        ≡ cond (nat_le pay.defer k && nat_le T k)
        (int_sum_over (subsets alive) (λ s. lost s *ℤ (ending_weight pay events lives k s *ℤ others s))) (pos 0)
    ends-of-year events = ap (λ z. cond (events.terms (suc k)) z (pos 0)) term-chance
        ∙ regroup (nat_le pay.defer k) (nat_le T k) (can_fall_on_term pay (suc k)) (events.terms (suc k))
      where
        regroup : (d t f e : Bool) → cond e (cond (d && t && f) paid_at_end (pos 0)) (pos 0)
            ≡ cond (d && t) (int_sum_over (subsets alive) (λ s. lost s
            *ℤ (cond (e && f) (pos (joint_survivors (suc k) (in_set s) lives)) (pos 0) *ℤ others s))) (pos 0)
        regroup true true true true = refl
        regroup true true false true = sym (all-none _ (λ s lies. zero-after (lost s) _ (no-times (others s))))
        regroup true true f false = sym (all-none _ (λ s lies. zero-after (lost s) _ (no-times (others s))))
        regroup true false f true = refl
        regroup true false f false = refl
        regroup false t f true = refl
        regroup false t f false = refl
