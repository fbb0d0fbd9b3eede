-- The marks of rank 1 add up.
use Rattle.std.proofs.Common.{◌≡◌, ◌≢◌, ◌⊎◌, ℕ, suc, ◌+◌, ◌*◌, ◌-◌, ◌≤◌, arith, refl, ap, ◌∙◌, List, [], ◌∷◌, length, get_or, Bool, true, false, cond, not, ◌&&◌, nat_eq, nat_le, Some, None, inl, inr}
use Rattle.std.specs.List.{list_all}
use Rattle.std.proofs.Math.Bool.{and-false}
use Rattle.std.proofs.lemmas.Bool.Decides.{nat_tests}
use Rattle.halo_sums.specs.Sums.{count_true, numbers_from, sum_over}
use Rattle.halo_sums.proofs.Sums.{sum_over-add, sum_over-ext, sum_over-none, sum_over-scale, sum_over-swap}
use Rattle.halo_sums.proofs.Numbers.{sum_over-numbers_next}
use Rattle.halo_status.specs.Tree.{Tree, Trees, joint, none, more, member_at, member_count}
use Rattle.halo_status.specs.Exists.{each_exists, exists}
use Rattle.halo_status.specs.Naming.{names_life, names_term}
use Rattle.halo_status.specs.Nodes.{AtEachNodeIn, IsLasting, NeverReturns}
use Rattle.halo_status.specs.Pay.{PlainPay}
use Rattle.halo_status.specs.ValidPay.{AreApart}
use Rattle.halo_status.specs.declared.pay.Kind.TheVariants.{Insurance}
use Rattle.halo_status.specs.declared.pay.Mark.{Mark}
use Rattle.halo_status.proofs.Lasting.{lasts}
use Rattle.halo_model.specs.Outcome.{Outcome, outcomes, weight}
use Rattle.halo_model.specs.Order.{rank_in}
use Rattle.halo_model.specs.Event.{Event, ends, leaves, leavings, lives_after, lives_before, term_ends, terms_after, terms_before, year_of}
use Rattle.halo_model.specs.Basis.{Basis, discounted, taken}
use Rattle.halo_model.specs.Payment.{by_cause, fails_at_rank, payment}
use Rattle.halo_model.specs.Value.{event_value, insurance_value, numerator, ranked_numerator}
use Rattle.halo_model.specs.MarkLaws.{FirstMarksAddUp, with_mark}
use Rattle.halo_model.proofs.Fails.{count_true-most, length-each_exists}
use Rattle.halo_model.proofs.NoChance.{unnamed-at-end, unnamed-at-leaving}

-- of two lists at most one place falls, from true to false
abbrev OneFalls : List Bool → List Bool → Type 0
OneFalls [] [] = Unit {0}
OneFalls [] (c ∷ cs) = ⊥
OneFalls (b ∷ bs) [] = ⊥
OneFalls (b ∷ bs) (c ∷ cs) = ((b ≡ c) × OneFalls bs cs) ⊎ ((b ≡ true) × (c ≡ false) × (bs ≡ cs))

none-falls : (bs : List Bool) → OneFalls bs bs
none-falls [] = tt
none-falls (b ∷ bs) = inl (refl, none-falls bs)

-- which event names a status
abbrev named_by : Event → Tree → Bool
named_by (leaves a x) s = names_life a s
named_by (ends n) s = names_term n s

unnamed : (rank : ℕ → ℕ) (o : Outcome) (event : Event) (s : Tree) → named_by event s ≡ false
    → exists (lives_before rank o event) (terms_before event) s
    ≡ exists (lives_after rank o event) (terms_after event) s
unnamed rank o (leaves a x) s silent = unnamed-at-leaving rank o a x s silent
unnamed rank o (ends n) s silent = unnamed-at-end rank o n s silent

left-true : (a b : Bool) → (a && b) ≡ true → a ≡ true
left-true true b e = refl
left-true false b e = e

-- no two members are named by an event
abbrev NamedOnce : Event → Trees → Type 0
NamedOnce event ms =
    (p q : ℕ) (s t : Tree) → p ≢ q → member_at ms p ≡ Some s → member_at ms q ≡ Some t → named_by event s ≡ true
    → named_by event t ≡ true → ⊥

apart-once : (event : Event) (ms : Trees) → AreApart ms → NamedOnce event ms
apart-once (leaves a x) ms apart p q s t other at-p at-q by-s by-t = (apart p q s t other at-p at-q).lives a by-s by-t
apart-once (ends n) ms apart p q s t other at-p at-q by-s by-t = (apart p q s t other at-p at-q).terms n by-s by-t

is-false : (b : Bool) → (b ≡ true → ⊥) → b ≡ false
is-false true h = absurd (h refl)
is-false false h = refl

module _ (rank : ℕ → ℕ) (o : Outcome) (event : Event) where
  stay : (ms : Trees) → ((q : ℕ) (t : Tree) → member_at ms q ≡ Some t → named_by event t ≡ false)
      → each_exists (lives_before rank o event) (terms_before event) ms
      ≡ each_exists (lives_after rank o event) (terms_after event) ms
  stay none silent = refl
  stay (more s ms) silent =
      ap (λ b. b ∷ each_exists (lives_before rank o event) (terms_before event) ms)
      (unnamed rank o event s (silent 0 s refl))
      ∙ ap (λ bs. exists (lives_after rank o event) (terms_after event) s ∷ bs)
      (stay ms (λ q t at. silent (suc q) t at))

  falls-or-stays : (s : Tree) → IsLasting s
      → (exists (lives_before rank o event) (terms_before event) s
      ≡ exists (lives_after rank o event) (terms_after event) s)
      ⊎ ((exists (lives_before rank o event) (terms_before event) s ≡ true)
      × (exists (lives_after rank o event) (terms_after event) s ≡ false))
  falls-or-stays s lasting =
      each (exists (lives_before rank o event) (terms_before event) s)
      (exists (lives_after rank o event) (terms_after event) s)
      (lasts (lives_after rank o event) (lives_before rank o event) (terms_after event) (terms_before event)
      (λ i e. left-true _ _ e) (λ n e. left-true _ _ e) s lasting)
    where
      each : (b c : Bool) → (c ≡ true → b ≡ true) → (b ≡ c) ⊎ ((b ≡ true) × (c ≡ false))
      each true true h = inl refl
      each true false h = inr (refl, refl)
      each false true h = absurd (cc (h refl))
      each false false h = inl refl

  one-falls : (ms : Trees) → AtEachNodeIn NeverReturns ms → NamedOnce event ms
      → OneFalls (each_exists (lives_before rank o event) (terms_before event) ms)
      (each_exists (lives_after rank o event) (terms_after event) ms)
  one-falls none lasting once = tt
  one-falls (more s ms) lasting once = each (named_by event s) refl
      (one-falls ms lasting.1 (λ p q t v other at-p at-q. once (suc p) (suc q) t v (λ e. other (omega arith)) at-p
      at-q))
    where
      others : named_by event s ≡ true → (q : ℕ) (t : Tree) → member_at ms q ≡ Some t → named_by event t ≡ false
      others e q t at = is-false (named_by event t) (λ f. once 0 (suc q) s t (λ z. absurd (omega arith)) refl at e f)

      behind : (same : each_exists (lives_before rank o event) (terms_before event) ms
          ≡ each_exists (lives_after rank o event) (terms_after event) ms)
          → OneFalls (each_exists (lives_before rank o event) (terms_before event) ms)
          (each_exists (lives_after rank o event) (terms_after event) ms)
      behind same = rw same (none-falls (each_exists (lives_after rank o event) (terms_after event) ms))

      each : (names : Bool) → named_by event s ≡ names
          → OneFalls (each_exists (lives_before rank o event) (terms_before event) ms)
          (each_exists (lives_after rank o event) (terms_after event) ms)
          → OneFalls (each_exists (lives_before rank o event) (terms_before event) (more s ms))
          (each_exists (lives_after rank o event) (terms_after event) (more s ms))
      each false e rest = inl (unnamed rank o event s e, rest)
      each true e rest =
          elim (falls-or-stays s lasting.0) [
            | inl same ↦ inl (same, rest)
            | inr falls ↦ inr
                (falls.0, falls.1, stay ms (others e))
          ]

-- where all exist before, the places that fall add up to whether one does
no-fall : (c : ℕ) (bs : List Bool)
    → sum_over (numbers_from 0 (length bs)) (λ p. cond (get_or bs p false && not (get_or bs p false) && true) c 0) ≡ 0
no-fall c [] = refl
no-fall c (b ∷ bs) = each b
    (sum_over-numbers_next (length bs) 0 (λ p. cond (get_or (b ∷ bs) p false && not (get_or (b ∷ bs) p false) && true) c
    0) ∙ no-fall c bs)
  where
    each : (b : Bool) {rest : ℕ} → rest ≡ 0 → cond (b && not b && true) c 0 + rest ≡ 0
    each true e = omega (arith, e)
    each false e = omega (arith, e)

zero-first : {m n : ℕ} → m ≡ n → 0 + m ≡ n
zero-first e = omega (arith, e)

falls-here : (c : ℕ) (bs : List Bool)
    → sum_over (numbers_from 0 (length (true ∷ bs)))
    (λ p. cond (get_or (true ∷ bs) p false && not (get_or (false ∷ bs) p false) && true) c 0) ≡ c
falls-here c bs =
    omega (
      arith,
      sum_over-numbers_next (length bs) 0
          (λ p. cond (get_or (true ∷ bs) p false && not (get_or (false ∷ bs) p false) && true) c 0),
      no-fall c bs,
    )

falls-add : (c : ℕ) (bs cs : List Bool) → list_all (λ b. b) bs ≡ true → OneFalls bs cs
    → sum_over (numbers_from 0 (length bs)) (λ p. cond (get_or bs p false && not (get_or cs p false) && true) c 0)
    ≡ cond (not (list_all (λ b. b) cs)) c 0
falls-add c [] [] all one = refl
falls-add c [] (d ∷ cs) all one = absurd one
falls-add c (b ∷ bs) [] all one = absurd one
falls-add c (false ∷ bs) (d ∷ cs) all one = absurd (cc)
falls-add c (true ∷ bs) (true ∷ cs) all (inl same) =
    zero-first (sum_over-numbers_next (length bs) 0
    (λ p. cond (get_or (true ∷ bs) p false && not (get_or (true ∷ cs) p false) && true) c 0)
    ∙ falls-add c bs cs all same.1)
falls-add c (true ∷ bs) (false ∷ cs) all (inl same) = absurd (let e : true ≡ false = same.0 in cc)
falls-add c (true ∷ bs) (d ∷ cs) all (inr falls) = rw (falls.1, ← falls.2) (falls-here c bs)

-- a member fails first where all existed before
rank-one : (bs : List Bool) → nat_eq (suc (length bs - count_true bs)) 1 ≡ list_all (λ b. b) bs
rank-one [] = refl
rank-one (true ∷ bs) = ap (λ n. nat_eq (suc n) 1) one_less ∙ rank-one bs
  where
    one_less : suc (length bs) - suc (count_true bs) ≡ length bs - count_true bs
    one_less = omega arith
rank-one (false ∷ bs) = missing (length bs) (count_true bs) (count_true-most bs)
  where
    missing : (n c : ℕ) → c ≤ n → nat_eq (suc (suc n - c)) 1 ≡ false
    missing n c h = grind (arith, nat_tests)

abbrev first : ℕ → Mark
first place = record { member = place; rank = 1 }

first-add : (c : ℕ) (bs cs : List Bool) → OneFalls bs cs
    → sum_over (numbers_from 0 (length bs)) (λ p. cond (fails_at_rank (first p) bs cs) c 0)
    ≡ cond (list_all (λ b. b) bs && not (list_all (λ b. b) cs)) c 0
first-add c bs cs one =
    ap (λ all. sum_over (numbers_from 0 (length bs))
    (λ p. cond (get_or bs p false && not (get_or cs p false) && all) c 0)) (rank-one bs)
    ∙ each (list_all (λ b. b) bs) refl
  where
    each : (all : Bool) → list_all (λ b. b) bs ≡ all
        → sum_over (numbers_from 0 (length bs)) (λ p. cond (get_or bs p false && not (get_or cs p false) && all) c 0)
        ≡ cond (all && not (list_all (λ b. b) cs)) c 0
    each true e = falls-add c bs cs e one
    each false e =
        sum_over-ext (numbers_from 0 (length bs)) _ _
        (λ p. ap (λ b. cond b c 0) (and-false (get_or bs p false && not (get_or cs p false))))
        ∙ sum_over-none (numbers_from 0 (length bs))

pub guarded : (allowed : Bool) (places : List ℕ) (f : ℕ → Bool) (whole : Bool) (c : ℕ)
    → sum_over places (λ p. cond (f p) c 0) ≡ cond whole c 0
    → sum_over places (λ p. cond (allowed && f p) c 0) ≡ cond (allowed && whole) c 0
guarded true places f whole c h = h
guarded false places f whole c h = sum_over-none places

module _ (b : Basis) (pay : PlainPay) (ms : Trees) (plain : pay.mark ≡ None) (body : pay.body ≡ joint ms)
    (lasting : IsLasting pay.body) (apart : AreApart ms) (rank : ℕ → ℕ) (T : ℕ) where
  on-event : (o : Outcome) (event : Event)
      → sum_over (numbers_from 0 (member_count ms)) (λ p. event_value b (with_mark pay p 1) rank T o event)
      ≡ event_value b pay rank T o event
  on-event o event =
      rw (
        plain,
        body,
        ← length-each_exists (lives_before rank o event) (lives_after rank o event) (terms_before event)
            (terms_after event) ms,
      )
      (guarded (nat_le pay.defer (year_of event) && nat_le T (year_of event) && by_cause pay.causes event)
      (numbers_from 0 (length (each_exists (lives_before rank o event) (terms_before event) ms))) _ _
      (payment pay (year_of event - pay.defer) * discounted b T (suc (year_of event)))
      (first-add _ (each_exists (lives_before rank o event) (terms_before event) ms)
      (each_exists (lives_after rank o event) (terms_after event) ms)
      (one-falls rank o event ms (rw body at lasting).1 (apart-once event ms apart))))

  on-outcome : (o : Outcome)
      → sum_over (numbers_from 0 (member_count ms)) (λ p. insurance_value b (with_mark pay p 1) rank T o)
      ≡ insurance_value b pay rank T o
  on-outcome o = sum_over-add (numbers_from 0 (member_count ms)) _ _
      ∙ ap (λ n. n + sum_over (numbers_from 0 (member_count ms))
      (λ p. sum_over (term_ends b.last_time pay.body) (event_value b (with_mark pay p 1) rank T o)))
      (sum_over-swap (numbers_from 0 (member_count ms)) (leavings 0 o)
      (λ p. event_value b (with_mark pay p 1) rank T o) ∙ sum_over-ext (leavings 0 o) _ _ (on-event o))
      ∙ ap (λ n. sum_over (leavings 0 o) (event_value b pay rank T o) + n)
      (sum_over-swap (numbers_from 0 (member_count ms)) (term_ends b.last_time pay.body)
      (λ p. event_value b (with_mark pay p 1) rank T o)
      ∙ sum_over-ext (term_ends b.last_time pay.body) _ _ (on-event o))

  in-order : (S : ℕ → Bool) → pay.kind ≡ Insurance
      → sum_over (numbers_from 0 (member_count ms)) (λ p. ranked_numerator b (with_mark pay p 1) rank T S)
      ≡ ranked_numerator b pay rank T S
  in-order S kind = rw kind
      (sum_over-swap (numbers_from 0 (member_count ms)) (outcomes T S b.lives)
      (λ p o. weight b.lives o * insurance_value b (with_mark pay p 1) rank T o)
      ∙ sum_over-ext (outcomes T S b.lives) _ _
      (λ o. sum_over-scale (numbers_from 0 (member_count ms)) (weight b.lives o)
      (λ p. insurance_value b (with_mark pay p 1) rank T o) ∙ ap (λ n. weight b.lives o * n) (on-outcome o)))

pub first-marks-add-up : FirstMarksAddUp
unfolding numerator
first-marks-add-up b pay ms kind plain body lasting apart T S =
    sum_over-swap (numbers_from 0 (member_count ms)) (taken b)
    (λ p order. ranked_numerator b (with_mark pay p 1) (rank_in order) T S)
    ∙ sum_over-ext (taken b) _ _ (λ order. in-order b pay ms plain body lasting apart (rank_in order) T S kind)
