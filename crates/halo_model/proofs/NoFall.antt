-- Nothing is paid for what the failing part of a body does not name.
use Rattle.std.proofs.Common.{◌≡◌, ℕ, zero, suc, arith, refl, ap, ◌∙◌, List, get_or, Bool, true, false, not, ◌&&◌, ◌||◌, nat_eq, nat_le, ◌-◌, Option, Some, None, pos, ◌*ℤ◌}
use Rattle.std.specs.Prelude.{IsSomeAnd, IsTrue}
use Rattle.std.proofs.Math.Bool.{and-false}
use Rattle.halo_sums.specs.Sums.{indicator}
use Rattle.halo_sums.proofs.IntSums.{int_sum_over-ext}
use Rattle.halo_status.specs.Tree.{Tree, Trees, life, term, joint, last, at_least, exactly, after, none, more, member_at}
use Rattle.halo_status.specs.Exists.{each_exists, exists}
use Rattle.halo_status.specs.Naming.{any_names_life, any_names_term, names_life, names_term}
use Rattle.halo_status.specs.Pay.{PlainPay}
use Rattle.halo_status.specs.declared.pay.Mark.{Mark}
use Rattle.halo_model.specs.Life.{PlainLife}
use Rattle.halo_model.specs.Outcome.{Exit, Outcome, outcomes, weight}
use Rattle.halo_model.specs.Event.{Event, ends, leaves, lives_after, lives_before, terms_after, terms_before}
use Rattle.halo_model.specs.Payment.{by_cause, fails_at_rank, fails_by_mark, falls_on, members_of}
use Rattle.halo_model.specs.Expectation.{expected}
use Rattle.halo_model.specs.Chance.{OfMarked, paid_at_exit, paid_on_leaving}
use Rattle.halo_model.specs.SetValue.{can_fall_on_life, can_fall_on_term, failing_part, holds_of}
use Rattle.halo_model.proofs.Expected.{expected-none}
use Rattle.halo_model.proofs.NoChance.{get_or-each_exists, unnamed-at-end, unnamed-at-leaving}

goes-on : (b c : Bool) → (b && not b && c) ≡ false
goes-on true c = refl
goes-on false c = refl

goes-on-whole : (b : Bool) → (b && not b) ≡ false
goes-on-whole true = refl
goes-on-whole false = refl

nobody-at : (alive on : ℕ → Bool) (ms : Trees) (p : ℕ)
    → member_at ms p ≡ None → get_or (each_exists alive on ms) p false ≡ false
nobody-at alive on none p e = refl
nobody-at alive on (more s ms) zero e = absurd (cc)
nobody-at alive on (more s ms) (suc p) e = nobody-at alive on ms p e

-- a part that exists alike before and after does not fail
part-stays : (alive still_alive on still_on : ℕ → Bool) (mark : Option Mark) (body : Tree)
    → ((s : Tree) → failing_part mark body ≡ Some s → exists alive on s ≡ exists still_alive still_on s)
    → fails_by_mark mark body alive on still_alive still_on ≡ false
part-stays alive still_alive on still_on None body h = rw (← h body refl) (goes-on-whole (exists alive on body))
part-stays alive still_alive on still_on (Some m) body h = at_member (member_at (members_of body) m.member) refl
  where
    at_member : (found : Option Tree) → member_at (members_of body) m.member ≡ found → fails_at_rank m
        (each_exists alive on (members_of body)) (each_exists still_alive still_on (members_of body)) ≡ false
    at_member None e = rw (nobody-at alive on (members_of body) m.member e) refl
    at_member (Some s) e = rw (
      get_or-each_exists alive on (members_of body) m.member s e,
      get_or-each_exists still_alive still_on (members_of body) m.member s e,
      ← h s e,
    ) (goes-on (exists alive on s) _)

pub not-paid : (pay : PlainPay) (rank : ℕ → ℕ) (T : ℕ) (o : Outcome) (event : Event)
    → ((s : Tree) → failing_part pay.mark pay.body ≡ Some s → exists (lives_before rank o event) (terms_before event) s
    ≡ exists (lives_after rank o event) (terms_after event) s)
    → falls_on pay rank T o event ≡ false
not-paid pay rank T o event h = rw (part-stays (lives_before rank o event)
    (lives_after rank o event) (terms_before event) (terms_after event) pay.mark pay.body h) (and-false _)

refused : (d t f : Bool) → (d && t && false && f) ≡ false
refused true true f = refl
refused true false f = refl
refused false t f = refl

-- what does not hold of the part does not hold of it where it is found
pub not-of-part : (found : Option Tree) (test : Tree → Bool)
    → holds_of found test ≡ false → (s : Tree) → found ≡ Some s → test s ≡ false
not-of-part None test e s q = absurd (cc)
not-of-part (Some t) test e s q = let same : t ≡ s = grind arith in rw (← same) e

module _ (pay : PlainPay) (rank : ℕ → ℕ) (T : ℕ) (S : ℕ → Bool) (lives : List PlainLife) where
  no-leaving : (a k : ℕ) → can_fall_on_life pay a ≡ false
      → (o : Outcome) (way : Option Exit) → indicator (paid_at_exit pay rank T a k o way) ≡ pos 0
  no-leaving a k silent o None = refl
  no-leaving a k silent o (Some x) = rw (
    not-paid pay rank T o (leaves a x) (λ s at. unnamed-at-leaving rank o a x s
        (not-of-part (failing_part pay.mark pay.body) (names_life a) silent s at)),
    and-false (nat_eq x.year k),
  ) refl

  pub no-chance-on-leaving : (a k : ℕ)
      → can_fall_on_life pay a ≡ false → expected T S lives (λ o. indicator (paid_on_leaving pay rank T a k o)) ≡ pos 0
  no-chance-on-leaving a k silent = int_sum_over-ext (outcomes T S lives) _ _
      (λ o. ap (λ z. pos (weight lives o) *ℤ z) (no-leaving a k silent o (get_or o a None))) ∙ expected-none T S lives

  no-end : (n : ℕ) → can_fall_on_term pay n ≡ false → (o : Outcome) → falls_on pay rank T o (ends n) ≡ false
  no-end n silent o = each (by_cause pay.causes (ends n)) refl
    where
      unnamed : by_cause pay.causes (ends n) ≡ true → holds_of (failing_part pay.mark pay.body) (names_term n) ≡ false
      unnamed e = (rw e at silent)

      each : (by : Bool) → by_cause pay.causes (ends n) ≡ by → falls_on pay rank T o (ends n) ≡ false
      each true e = not-paid pay rank T o (ends n) (λ s at. unnamed-at-end rank o n s
          (not-of-part (failing_part pay.mark pay.body) (names_term n) (unnamed e) s at))
      each false e = rw e (refused (nat_le pay.defer (n - 1)) (nat_le T (n - 1)) (fails_by_mark pay.mark pay.body
          (lives_before rank o (ends n)) (terms_before (ends n)) (lives_after rank o (ends n)) (terms_after (ends n))))

  pub no-chance-on-end : (n : ℕ)
      → can_fall_on_term pay n ≡ false → expected T S lives (λ o. indicator (falls_on pay rank T o (ends n))) ≡ pos 0
  no-chance-on-end n silent = int_sum_over-ext (outcomes T S lives) _ _
      (λ o. ap (λ b. pos (weight lives o) *ℤ indicator b) (no-end n silent o)) ∙ expected-none T S lives

-- a payment that can fall on an event is one on the marked member
pub of-marked : (mark : Option Mark) (body : Tree) (test : Tree → Bool)
    → holds_of (failing_part mark body) test ≡ true → OfMarked mark body (λ s. IsTrue (test s))
of-marked None body test e = tt
of-marked (Some m) body test e = at_member (member_at (members_of body) m.member) e
  where
    at_member : (found : Option Tree) → holds_of found test ≡ true → IsSomeAnd found (λ s. IsTrue (test s))
    at_member None q = absurd (cc)
    at_member (Some s) q = q

neither : (a b : Bool) → (a || b) ≡ false → (a ≡ false) × (b ≡ false)
neither true b e = absurd (cc)
neither false b e = (refl, e)

member-unnamed : (ms : Trees) (n p : ℕ) → any_names_term n ms ≡ false → holds_of (member_at ms p) (names_term n) ≡ false
member-unnamed none n p e = refl
member-unnamed (more s ms) n zero e = (neither (names_term n s) (any_names_term n ms) e).0
member-unnamed (more s ms) n (suc p) e = member-unnamed ms n p (neither (names_term n s) (any_names_term n ms) e).1

-- a body that does not name a term has no part that does
pub part-unnamed : (mark : Option Mark) (body : Tree) (n : ℕ)
    → names_term n body ≡ false → holds_of (failing_part mark body) (names_term n) ≡ false
part-unnamed None body n e = e
part-unnamed (Some m) (joint ms) n e = member-unnamed ms n m.member e
part-unnamed (Some m) (life i) n e = refl
part-unnamed (Some m) (term k) n e = refl
part-unnamed (Some m) (last ms) n e = refl
part-unnamed (Some m) (at_least r ms) n e = refl
part-unnamed (Some m) (exactly r ms) n e = refl
part-unnamed (Some m) (after s t) n e = refl

-- nor one that does not name a life
member-unnamed_life : (ms : Trees) (a p : ℕ)
    → any_names_life a ms ≡ false → holds_of (member_at ms p) (names_life a) ≡ false
member-unnamed_life none a p e = refl
member-unnamed_life (more s ms) a zero e = (neither (names_life a s) (any_names_life a ms) e).0
member-unnamed_life (more s ms) a (suc p) e =
    member-unnamed_life ms a p (neither (names_life a s) (any_names_life a ms) e).1

pub part-unnamed_life : (mark : Option Mark) (body : Tree) (a : ℕ)
    → names_life a body ≡ false → holds_of (failing_part mark body) (names_life a) ≡ false
part-unnamed_life None body a e = e
part-unnamed_life (Some m) (joint ms) a e = member-unnamed_life ms a m.member e
part-unnamed_life (Some m) (life i) a e = refl
part-unnamed_life (Some m) (term k) a e = refl
part-unnamed_life (Some m) (last ms) a e = refl
part-unnamed_life (Some m) (at_least r ms) a e = refl
part-unnamed_life (Some m) (exactly r ms) a e = refl
part-unnamed_life (Some m) (after s t) a e = refl
