-- The ranks of one member add up.
use Rattle.std.proofs.Common.{◌≡◌, ℕ, zero, suc, ◌+◌, ◌*◌, ◌-◌, ◌<◌, ◌≤◌, arith, refl, ap, sym, ◌∙◌, List, [], ◌∷◌, length, get_or, filter, Bool, true, false, cond, not, ◌&&◌, nat_eq, nat_le, Some, None, ⊎_elim}
use Rattle.std.proofs.Math.Bool.{and-false}
use Rattle.std.proofs.lemmas.Bool.{cases_lt}
use Rattle.std.proofs.lemmas.Bool.Decides.{nat_tests}
use Rattle.halo_sums.specs.Sums.{count_true, numbers_from, sum_over}
use Rattle.halo_sums.proofs.Sums.{sum_over-add, sum_over-ext, sum_over-map, sum_over-none, sum_over-scale, sum_over-swap}
use Rattle.halo_status.specs.Tree.{Tree, Trees, joint, none, more, member_at, member_count}
use Rattle.halo_status.specs.Exists.{each_exists, exists}
use Rattle.halo_status.specs.Naming.{any_names_term, names_term}
use Rattle.halo_status.specs.Pay.{PlainPay}
use Rattle.halo_status.specs.declared.pay.Kind.TheVariants.{Insurance}
use Rattle.halo_status.specs.declared.pay.Mark.{Mark}
use Rattle.halo_model.specs.Outcome.{Outcome, outcomes, weight}
use Rattle.halo_model.specs.Order.{rank_in}
use Rattle.halo_model.specs.Event.{Event, ends, leavings, lives_after, lives_before, term_ends, terms_after, terms_before, year_of}
use Rattle.halo_model.specs.Basis.{Basis, discounted, taken}
use Rattle.halo_model.specs.Payment.{by_cause, fails_at_rank, payment}
use Rattle.halo_model.specs.Value.{event_value, insurance_value, numerator, ranked_numerator}
use Rattle.halo_model.specs.MarkLaws.{RanksAddUp, with_mark}
use Rattle.halo_status.proofs.Agreement.{or-left, or-right}
use Rattle.halo_model.proofs.Fails.{count_true-at, count_true-most, length-each_exists}
use Rattle.halo_model.proofs.FirstMarks.{guarded}
use Rattle.halo_model.proofs.NoChance.{get_or-each_exists, unnamed-at-end}

above : (i k : ℕ) → k < i → nat_eq k i ≡ false
above i k h = grind (arith, nat_tests)

below : (i k : ℕ) → i < k → nat_eq k i ≡ false
below i k h = grind (arith, nat_tests)

same : (k : ℕ) → nat_eq k k ≡ true
same k = grind (arith, nat_tests)

-- one of the numbers in a row is a given one, if it lies there
pick-none : (count first k c : ℕ) → k < first → sum_over (numbers_from first count) (λ i. cond (nat_eq k i) c 0) ≡ 0
pick-none zero first k c h = refl
pick-none (suc count) first k c h = rw (above first k h, pick-none count (suc first) k c (omega arith)) refl

pick-one : (count first k c : ℕ) → first ≤ k → k < first + count
    → sum_over (numbers_from first count) (λ i. cond (nat_eq k i) c 0) ≡ c
pick-one zero first k c low high = absurd (omega arith)
pick-one (suc count) first k c low high = ⊎_elim
    (λ before. rw (below first k before, pick-one count (suc first) k c (omega arith) (omega arith)) (omega arith))
    (λ reached. let e : first ≡ k = omega arith in rw (e, same k, pick-none count (suc k) k c (omega arith))
    (omega arith))
    (cases_lt first k)

abbrev ranked : ℕ → ℕ → Mark
ranked place rank = record { member = place; rank = rank }

-- a member that fails does so at just one rank
ranks-add : (c place : ℕ) (bs cs : List Bool)
    → sum_over (numbers_from 1 (length bs)) (λ rank. cond (fails_at_rank (ranked place rank) bs cs) c 0)
    ≡ cond (get_or bs place false && not (get_or cs place false)) c 0
ranks-add c place bs cs = each (get_or bs place false) (not (get_or cs place false)) (count_true-at bs place)
  where
    each : (b gone : Bool) → cond b 1 0 ≤ count_true bs
        → sum_over (numbers_from 1 (length bs)) (λ rank. cond
        (b && gone && nat_eq (suc (length bs - count_true bs)) rank) c 0) ≡ cond (b && gone) c 0
    each true true some =
        pick-one (length bs) 1 (suc (length bs - count_true bs)) c (omega arith)
        (omega (arith, some, count_true-most bs))
    each true false some = sum_over-none (numbers_from 1 (length bs))
    each false gone some = sum_over-none (numbers_from 1 (length bs))

-- a sum over what passes one test and over what passes a stricter one, where the rest counts nothing
stricter : (xs : List ℕ) (wide narrow : ℕ → Bool) (f : ℕ → ℕ) → ((n : ℕ) → narrow n ≡ true → wide n ≡ true)
    → ((n : ℕ) → narrow n ≡ false → f n ≡ 0) → sum_over (filter wide xs) f ≡ sum_over (filter narrow xs) f
stricter [] wide narrow f within nothing = refl
stricter (x ∷ xs) wide narrow f within nothing =
    each (narrow x) (wide x) refl (within x) (nothing x) (stricter xs wide narrow f within nothing)
  where
    each : (n w : Bool) → narrow x ≡ n → (narrow x ≡ true → w ≡ true) → (narrow x ≡ false → f x ≡ 0)
        → sum_over (filter wide xs) f ≡ sum_over (filter narrow xs) f
        → sum_over (cond w (x ∷ filter wide xs) (filter wide xs)) f
        ≡ sum_over (cond n (x ∷ filter narrow xs) (filter narrow xs)) f
    each true true e in_wide zero_at rest = ap (λ m. f x + m) rest
    each true false e in_wide zero_at rest = absurd (let q : false ≡ true = in_wide e in cc)
    each false true e in_wide zero_at rest = omega (arith, zero_at e, rest)
    each false false e in_wide zero_at rest = rest

names-member : (ms : Trees) (place : ℕ) (s : Tree) → member_at ms place ≡ Some s → (n : ℕ) → names_term n s ≡ true
    → any_names_term n ms ≡ true
names-member none place s at n e = absurd (cc)
names-member (more t ms) zero s at n e = let q : t ≡ s = grind arith in rw q (or-left _ _ e)
names-member (more t ms) (suc place) s at n e = or-right (names_term n t) _ (names-member ms place s at n e)

module _ (b : Basis) (pay : PlainPay) (ms : Trees) (place : ℕ) (s : Tree) (plain : pay.mark ≡ None)
    (body : pay.body ≡ joint ms) (at : member_at ms place ≡ Some s) (rank : ℕ → ℕ) (T : ℕ) where
  abbrev alone : PlainPay
  alone = record pay { body = s }

  on-event : (o : Outcome) (event : Event)
      → sum_over (numbers_from 1 (member_count ms)) (λ r. event_value b (with_mark pay place r) rank T o event)
      ≡ event_value b alone rank T o event
  on-event o event = rw (
    plain,
    body,
    ← length-each_exists (lives_before rank o event) (lives_after rank o event) (terms_before event) (terms_after event)
        ms,
    ← get_or-each_exists (lives_before rank o event) (terms_before event) ms place s at,
    ← get_or-each_exists (lives_after rank o event) (terms_after event) ms place s at,
  )
      (guarded (nat_le pay.defer (year_of event) && nat_le T (year_of event) && by_cause pay.causes event)
      (numbers_from 1 (length (each_exists (lives_before rank o event) (terms_before event) ms))) _ _
      (payment pay (year_of event - pay.defer) * discounted b T (suc (year_of event)))
      (ranks-add _ place (each_exists (lives_before rank o event) (terms_before event) ms)
      (each_exists (lives_after rank o event) (terms_after event) ms)))

  goes-on : (q : Bool) → (q && not q) ≡ false
  goes-on true = refl
  goes-on false = refl

  -- the end of a term that the member does not name pays nothing
  unnamed-worth : (o : Outcome) (n : ℕ) → names_term n s ≡ false → event_value b alone rank T o (ends n) ≡ 0
  unnamed-worth o n silent =
      rw (
        plain,
        unnamed-at-end rank o n s silent,
        goes-on
            (exists (lives_after rank o (ends n)) (terms_after (ends n)) s),
        and-false
            (nat_le pay.defer (n - 1) && nat_le T (n - 1) && by_cause pay.causes (ends n)),
      ) refl

  own-ends : (o : Outcome)
      → sum_over (term_ends b.last_time pay.body) (event_value b alone rank T o)
      ≡ sum_over (term_ends b.last_time s) (event_value b alone rank T o)
  own-ends o =
      sum_over-map ends (filter (λ n. names_term n pay.body) (numbers_from 1 b.last_time))
      (event_value b alone rank T o)
      ∙ stricter (numbers_from 1 b.last_time) (λ n. names_term n pay.body) (λ n. names_term n s)
      (λ n. event_value b alone rank T o (ends n)) (λ n e. rw body (names-member ms place s at n e))
      (unnamed-worth o)
      ∙ sym (sum_over-map ends (filter (λ n. names_term n s) (numbers_from 1 b.last_time))
      (event_value b alone rank T o))

  on-outcome : (o : Outcome)
      → sum_over (numbers_from 1 (member_count ms)) (λ r. insurance_value b (with_mark pay place r) rank T o)
      ≡ insurance_value b alone rank T o
  on-outcome o = sum_over-add (numbers_from 1 (member_count ms)) _ _
      ∙ ap (λ n. n + sum_over (numbers_from 1 (member_count ms))
      (λ r. sum_over (term_ends b.last_time pay.body) (event_value b (with_mark pay place r) rank T o)))
      (sum_over-swap (numbers_from 1 (member_count ms)) (leavings 0 o)
      (λ r. event_value b (with_mark pay place r) rank T o) ∙ sum_over-ext (leavings 0 o) _ _ (on-event o))
      ∙ ap (λ n. sum_over (leavings 0 o) (event_value b alone rank T o) + n)
      (sum_over-swap (numbers_from 1 (member_count ms)) (term_ends b.last_time pay.body)
      (λ r. event_value b (with_mark pay place r) rank T o)
      ∙ sum_over-ext (term_ends b.last_time pay.body) _ _ (on-event o) ∙ own-ends o)

  in-order : (S : ℕ → Bool) → pay.kind ≡ Insurance
      → sum_over (numbers_from 1 (member_count ms)) (λ r. ranked_numerator b (with_mark pay place r) rank T S)
      ≡ ranked_numerator b alone rank T S
  in-order S kind = rw kind
      (sum_over-swap (numbers_from 1 (member_count ms)) (outcomes T S b.lives)
      (λ r o. weight b.lives o * insurance_value b (with_mark pay place r) rank T o)
      ∙ sum_over-ext (outcomes T S b.lives) _ _
      (λ o. sum_over-scale (numbers_from 1 (member_count ms)) (weight b.lives o)
      (λ r. insurance_value b (with_mark pay place r) rank T o)
      ∙ ap (λ n. weight b.lives o * n) (on-outcome o)))

pub ranks-add-up : RanksAddUp
unfolding numerator
ranks-add-up b pay ms place s kind plain body at T S =
    sum_over-swap (numbers_from 1 (member_count ms)) (taken b)
    (λ r order. ranked_numerator b (with_mark pay place r) (rank_in order) T S)
    ∙ sum_over-ext (taken b) _ _ (λ order. in-order b pay ms place s plain body at (rank_in order) T S kind)
