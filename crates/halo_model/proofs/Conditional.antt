-- A reserve is a conditional expectation over the outcomes from the start.
use Rattle.std.proofs.Common.{◌≡◌, ℕ, ◌+◌, ◌*◌, ◌-◌, ◌<◌, ◌≤◌, arith, refl, ap, sym, ◌∙◌, List, [], ◌∷◌, Bool, true, false, cond, not, ◌&&◌, nat_le, Option, Some, None, ℤ, pos, ◌+ℤ◌, ◌*ℤ◌, ◌-ℤ◌, ⊎_elim}
use Rattle.std.proofs.Math.Path.{fun_ext}
use Rattle.std.proofs.lemmas.Bool.{cases_lt}
use Rattle.std.proofs.lemmas.Bool.Decides.{nat_tests}
use Rattle.std.proofs.lemmas.Int.{ints}
use Rattle.halo_sums.specs.Sums.{indicator, int_sum_over, numbers_from, sum_over}
use Rattle.halo_sums.proofs.Integers.{mul_assoc, mul_left_comm}
use Rattle.halo_sums.proofs.IntSums.{int_sum_over-append, int_sum_over-ext, int_sum_over-none, int_sum_over-scale}
use Rattle.halo_sums.proofs.Numbers.{int_sum_over-numbers_ext, numbers_from-add}
use Rattle.halo_model.specs.Life.{AreLives, IsLife, PlainLife, after_first}
use Rattle.halo_model.specs.Outcome.{Exit, Outcome, exit_weight, joint_survivors, outcomes, ways, weight}
use Rattle.halo_model.specs.There.{there}
use Rattle.halo_contract.specs.Premium.{all_lives}
use Rattle.halo_model.specs.Value.{outcome_value, ranked_numerator}
use Rattle.halo_model.specs.Expectation.{expected}
use Rattle.halo_model.specs.ReserveLaw.{ReserveIsConditional, exactly_at}
use Rattle.halo_model.proofs.Expected.{expected-cons, expected-pos, expected-scale, int_sum_over-ways}
use Rattle.halo_model.proofs.Falls.{indicator-and}
use Rattle.halo_model.proofs.OneWay.{one-life}
use Rattle.halo_model.proofs.Since.{since, value-since, way_since}
use Rattle.halo_model.proofs.Weights.{weights-add}

-- the weight of those that are gone at T, of the lives outside S
abbrev gone_weight : ℕ → (ℕ → Bool) → List PlainLife → ℤ
gone_weight T S [] = pos 1
gone_weight T S (x ∷ lives) =
    cond (S 0) (pos 1) (pos (x.survivors 0) -ℤ pos (x.survivors T)) *ℤ gone_weight T (after_first S) lives

none-times : (y z : ℤ) → pos 0 *ℤ y ≡ pos 0 *ℤ z
none-times y z = omega (arith, ints)

nothing : (y z : ℤ) → y *ℤ (pos 0 *ℤ z) ≡ pos 0
nothing y z = let zero_part : pos 0 *ℤ z ≡ pos 0 = omega (arith, ints) in rw zero_part (omega (arith, ints))

once : (y z : ℤ) → y *ℤ (pos 1 *ℤ z) ≡ y *ℤ z
once y z = let one_part : pos 1 *ℤ z ≡ z = omega (arith, ints) in rw one_part

-- a sum over numbers of which the first count nothing
sum-from : (T years : ℕ) (f : ℕ → ℤ) → ((k : ℕ) → k < T → f k ≡ pos 0)
    → int_sum_over (numbers_from 0 years) f ≡ int_sum_over (numbers_from T (years - T)) f
sum-from T years f before = ⊎_elim
    (λ short. let none : years - T ≡ 0 = omega arith in rw none
    (int_sum_over-numbers_ext years 0 f (λ k. pos 0) (λ k above below. before k (omega arith))
    ∙ int_sum_over-none (numbers_from 0 years)))
    (λ long. let split : years ≡ T + (years - T) = omega arith in
    ap (λ n. int_sum_over (numbers_from 0 n) f) split
    ∙ ap (λ ns. int_sum_over ns f) (numbers_from-add T (years - T) 0)
    ∙ int_sum_over-append (numbers_from 0 T) (numbers_from (0 + T) (years - T)) f
    ∙ ap (λ z. z +ℤ int_sum_over (numbers_from (0 + T) (years - T)) f)
    (int_sum_over-numbers_ext T 0 f (λ k. pos 0) (λ k above below. before k (omega arith))
    ∙ int_sum_over-none (numbers_from 0 T))
    ∙ from-T (0 + T) (omega arith))
    (cases_lt years T)
  where
    from-T : (first : ℕ) → first ≡ T
        → pos 0 +ℤ int_sum_over (numbers_from first (years - T)) f ≡ int_sum_over (numbers_from T (years - T)) f
    from-T first e = rw e (omega (arith, ints))

reached : (T k : ℕ) → T ≤ k → nat_le T k ≡ true
reached T k h = grind (arith, nat_tests)

not-reached : (T k : ℕ) → k < T → nat_le T k ≡ false
not-reached T k h = grind (arith, nat_tests)

-- what can become of a life from the start, where it is there at T or not as S says: what can become of it from T on
one-life-since : (x : PlainLife) → IsLife x → (T : ℕ) (alive : Bool) (h : Option Exit → ℤ)
    → int_sum_over (ways 0 true x) (λ way. pos (exit_weight x way) *ℤ
    (indicator (cond alive (there T way) (not (there T way))) *ℤ h (way_since T way)))
    ≡ cond alive (pos 1) (pos (x.survivors 0) -ℤ pos (x.survivors T)) *ℤ int_sum_over (ways T alive x)
    (λ way. pos (exit_weight x way) *ℤ h way)
one-life-since x rule T true h =
    int_sum_over-ways 0 x (λ way. pos (exit_weight x way) *ℤ (indicator (there T way) *ℤ h (way_since T way)))
    ∙ ap (λ years. int_sum_over (numbers_from 0 years) (λ k. int_sum_over (numbers_from 0 x.causes) (term k))) all_years
    ∙ sum-from T x.years_left (λ k. int_sum_over (numbers_from 0 x.causes) (term k)) before
    ∙ int_sum_over-numbers_ext (x.years_left - T) T _ _
    (λ k above below. int_sum_over-ext (numbers_from 0 x.causes) _ _
    (λ j. rw (reached T k above) (once (pos (x.leavers k j)) (h (Some (record { year = k; cause = j }))))))
    ∙ sym (int_sum_over-ways T x (λ way. pos (exit_weight x way) *ℤ h way))
    ∙ unit (int_sum_over (ways T true x) (λ way. pos (exit_weight x way) *ℤ h way))
  where
    term : ℕ → ℕ → ℤ
    term k j =
        pos (x.leavers k j) *ℤ (indicator (nat_le T k) *ℤ h (cond (nat_le T k) (Some (record {
          year = k;
          cause = j;
        })) None))

    before : (k : ℕ) → k < T → int_sum_over (numbers_from 0 x.causes) (term k) ≡ pos 0
    before k lt =
        int_sum_over-ext (numbers_from 0 x.causes) _ _
        (λ j. rw (not-reached T k lt) (nothing (pos (x.leavers k j)) (h None)))
        ∙ int_sum_over-none (numbers_from 0 x.causes)

    all_years : x.years_left - 0 ≡ x.years_left
    all_years = omega arith

    unit : (z : ℤ) → z ≡ pos 1 *ℤ z
    unit z = omega (arith, ints)
one-life-since x rule T false h =
    int_sum_over-ext (ways 0 true x) _ _ (λ way. ap (λ z. pos (exit_weight x way) *ℤ z) (outside way))
    ∙ one-life x rule 0 T (omega arith) true (λ b. indicator (not b) *ℤ h None)
    ∙ last-part (pos (x.survivors T)) (pos (x.survivors 0) -ℤ pos (x.survivors T)) (h None)
  where
    outside : (way : Option Exit)
        → indicator (not (there T way)) *ℤ h (way_since T way) ≡ indicator (not (there T way)) *ℤ h None
    outside None = refl
    outside (Some e) = each (nat_le T e.year)
      where
        each : (stays : Bool) → indicator (not stays) *ℤ h (cond stays (Some e) None) ≡ indicator (not stays) *ℤ h None
        each true = none-times (h (Some e)) (h None)
        each false = refl

    last-part : (a b z : ℤ) → a *ℤ (pos 0 *ℤ z) +ℤ b *ℤ (pos 1 *ℤ z) ≡ b *ℤ (pos 1 *ℤ z +ℤ pos 0)
    last-part a b z =
        let zero_part : pos 0 *ℤ z ≡ pos 0 = omega (arith, ints) in
        let one_part : pos 1 *ℤ z ≡ z = omega (arith, ints) in
        let nothing_more : z +ℤ pos 0 ≡ z = omega (arith, ints) in
        rw (zero_part, one_part, nothing_more) (omega (arith, ints))

-- the outcomes from the start in which exactly the lives of S are there at T are those from T, times those that are
-- gone
pub expected-exactly : (T : ℕ) (S : ℕ → Bool) (lives : List PlainLife) → AreLives lives → (g : Outcome → ℤ)
    → expected 0 all_lives lives (λ o. indicator (exactly_at T S o) *ℤ g (since T o))
    ≡ gone_weight T S lives *ℤ expected T S lives g
expected-exactly T S [] rule g = omega (arith, ints)
expected-exactly T S (x ∷ lives) rule g =
    expected-cons 0 all_lives x lives (λ o. indicator (exactly_at T S o) *ℤ g (since T o))
    ∙ int_sum_over-ext (ways 0 true x) _ _ (λ way. ap (λ z. pos (exit_weight x way) *ℤ z)
    (apart way ∙ ap (λ z. indicator (is way) *ℤ z)
    (expected-exactly T (after_first S) lives rule.1 (λ o. g (way_since T way ∷ o)))))
    ∙ one-life-since x rule.0 T (S 0) (λ way. gone_weight T (after_first S) lives *ℤ expected T (after_first S) lives
    (λ o. g (way ∷ o)))
    ∙ ap (λ z. cond (S 0) (pos 1) (pos (x.survivors 0) -ℤ pos (x.survivors T)) *ℤ z) gathered
    ∙ sym (mul_assoc (cond (S 0) (pos 1) (pos (x.survivors 0) -ℤ pos (x.survivors T)))
    (gone_weight T (after_first S) lives) (expected T S (x ∷ lives) g))
  where
    is : Option Exit → Bool
    is way = cond (S 0) (there T way) (not (there T way))

    apart : (way : Option Exit)
        → expected 0 all_lives lives (λ o. indicator (is way && exactly_at T (after_first S) o) *ℤ g
        (way_since T way ∷ since T o))
        ≡ indicator (is way) *ℤ expected 0 all_lives lives
        (λ o. indicator (exactly_at T (after_first S) o) *ℤ g (way_since T way ∷ since T o))
    apart way =
        int_sum_over-ext (outcomes 0 all_lives lives) _ _
        (λ o. ap (λ z. pos (weight lives o) *ℤ z)
        (ap (λ z. z *ℤ g (way_since T way ∷ since T o))
        (indicator-and (is way) (exactly_at T (after_first S) o))
        ∙ mul_assoc (indicator (is way)) (indicator (exactly_at T (after_first S) o))
        (g (way_since T way ∷ since T o))))
        ∙ expected-scale 0 all_lives lives (indicator (is way))
        (λ o. indicator (exactly_at T (after_first S) o) *ℤ g (way_since T way ∷ since T o))

    gathered : int_sum_over (ways T (S 0) x) (λ way. pos (exit_weight x way) *ℤ
        (gone_weight T (after_first S) lives *ℤ expected T (after_first S) lives (λ o. g (way ∷ o))))
        ≡ gone_weight T (after_first S) lives *ℤ expected T S (x ∷ lives) g
    gathered =
        int_sum_over-ext (ways T (S 0) x) _ _ (λ way. mul_left_comm (pos (exit_weight x way))
        (gone_weight T (after_first S) lives) (expected T (after_first S) lives (λ o. g (way ∷ o))))
        ∙ int_sum_over-scale (ways T (S 0) x) (gone_weight T (after_first S) lives)
        (λ way. pos (exit_weight x way) *ℤ expected T (after_first S) lives (λ o. g (way ∷ o)))
        ∙ ap (λ z. gone_weight T (after_first S) lives *ℤ z) (sym (expected-cons T S x lives g))

-- the sum of the weights from T is the joint survivors
expected-one : (T : ℕ) (S : ℕ → Bool) (lives : List PlainLife) → AreLives lives
    → expected T S lives (λ o. pos 1) ≡ pos (joint_survivors T S lives)
expected-one T S lives rule = sym (expected-pos T S lives (λ o. 1)) ∙ ap pos (times_one ∙ weights-add T S lives rule)
  where
    times_one : sum_over (outcomes T S lives) (λ o. weight lives o * 1)
        ≡ sum_over (outcomes T S lives) (λ o. weight lives o)
    times_one = ap (sum_over (outcomes T S lives)) (fun_ext (λ o. omega arith))

pub reserve-is-conditional : ReserveIsConditional
reserve-is-conditional b rule pay rank T S =
    ap (λ z. z *ℤ pos (joint_survivors T S b.lives))
    (worth ∙ expected-exactly T S b.lives rule (λ o. pos (outcome_value b pay rank T o))
    ∙ ap (λ z. gone *ℤ z) (sym (expected-pos T S b.lives (outcome_value b pay rank T))))
    ∙ turned gone (pos (ranked_numerator b pay rank T S)) (pos (joint_survivors T S b.lives))
    ∙ ap (λ z. pos (ranked_numerator b pay rank T S) *ℤ z)
    (sym (weights ∙ expected-exactly T S b.lives rule (λ o. pos 1)
    ∙ ap (λ z. gone *ℤ z) (expected-one T S b.lives rule)))
  where
    gone : ℤ
    gone = gone_weight T S b.lives

    worth : expected 0 all_lives b.lives (λ o. indicator (exactly_at T S o) *ℤ pos (outcome_value b pay rank T o))
        ≡ expected 0 all_lives b.lives (λ o. indicator (exactly_at T S o) *ℤ pos
        (outcome_value b pay rank T (since T o)))
    worth =
        int_sum_over-ext (outcomes 0 all_lives b.lives) _ _
        (λ o. ap (λ n. pos (weight b.lives o) *ℤ (indicator (exactly_at T S o) *ℤ pos n))
        (sym (value-since b pay rank T pay.kind o)))

    weights : expected 0 all_lives b.lives (λ o. indicator (exactly_at T S o))
        ≡ expected 0 all_lives b.lives (λ o. indicator (exactly_at T S o) *ℤ pos 1)
    weights =
        int_sum_over-ext (outcomes 0 all_lives b.lives) _ _
        (λ o. ap (λ z. pos (weight b.lives o) *ℤ z) (unit (indicator (exactly_at T S o))))
      where
        unit : (z : ℤ) → z ≡ z *ℤ pos 1
        unit z = omega (arith, ints)

    turned : (g n j : ℤ) → (g *ℤ n) *ℤ j ≡ n *ℤ (g *ℤ j)
    turned g n j = mul_assoc g n j ∙ mul_left_comm g n j
