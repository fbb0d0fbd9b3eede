-- A marked pay pays nothing for what the marked member does not name.
use Rattle.std.proofs.Common.{◌≡◌, ℕ, zero, suc, arith, refl, ap, sym, ◌∙◌, get_or, Bool, true, false, not, ◌&&◌, nat_eq, Option, Some, None, pos, ◌*ℤ◌}
use Rattle.std.specs.Prelude.{IsSomeAnd}
use Rattle.std.proofs.Math.Bool.{and-true, and-false}
use Rattle.std.proofs.lemmas.Bool.Decides.{nat_tests}
use Rattle.halo_sums.specs.Sums.{indicator}
use Rattle.halo_sums.proofs.IntSums.{int_sum_over-ext}
use Rattle.halo_status.specs.Tree.{Tree, Trees, none, more, member_at}
use Rattle.halo_status.specs.Exists.{each_exists, exists}
use Rattle.halo_status.specs.Naming.{names_life, names_term}
use Rattle.halo_status.specs.Pay.{PlainPay}
use Rattle.halo_status.specs.declared.pay.Mark.{Mark}
use Rattle.halo_model.specs.Outcome.{Exit, Outcome, outcomes, weight}
use Rattle.halo_model.specs.Event.{Event, ends, leaves, lives_after, lives_before, terms_after, terms_before}
use Rattle.halo_model.specs.Payment.{fails_at_rank, fails_by_mark, falls_on, members_of}
use Rattle.halo_model.specs.Chance.{IsMarkedAnd, paid_at_exit}
use Rattle.halo_model.specs.ChanceLaws.{NoChanceOnOtherEnd, NoChanceOnOtherLeaving}
use Rattle.halo_status.proofs.Agreement.{agree}
use Rattle.halo_model.proofs.Expected.{expected-none}

pub other-than : (a i : ℕ) → (i ≡ a → ⊥) → nat_eq a i ≡ false
other-than a i h = grind (arith, nat_tests)

pub get_or-each_exists : (alive on : ℕ → Bool) (ms : Trees) (p : ℕ) (s : Tree) → member_at ms p ≡ Some s
    → get_or (each_exists alive on ms) p false ≡ exists alive on s
get_or-each_exists alive on none p s e = absurd (cc)
get_or-each_exists alive on (more t ms) zero s e = let q : t ≡ s = grind arith in rw q
get_or-each_exists alive on (more t ms) (suc p) s e = get_or-each_exists alive on ms p s e

goes-on : (b c : Bool) → (b && not b && c) ≡ false
goes-on true c = refl
goes-on false c = refl

-- a marked member that exists alike before and after does not fail
stays : (alive still_alive on still_on : ℕ → Bool) (mark : Option Mark) (body : Tree)
    → IsMarkedAnd mark body (λ s. exists alive on s ≡ exists still_alive still_on s)
    → fails_by_mark mark body alive on still_alive still_on ≡ false
stays alive still_alive on still_on None body h = absurd h
stays alive still_alive on still_on (Some m) body h = at_member (member_at (members_of body) m.member) refl h
  where
    at_member : (found : Option Tree) → member_at (members_of body) m.member ≡ found
        → IsSomeAnd found (λ s. exists alive on s ≡ exists still_alive still_on s)
        → fails_at_rank m (each_exists alive on (members_of body)) (each_exists still_alive still_on (members_of body))
        ≡ false
    at_member None e h = absurd h
    at_member (Some s) e h =
        rw (
          get_or-each_exists alive on (members_of body) m.member s e,
          get_or-each_exists still_alive still_on
              (members_of body) m.member s e,
          ← h,
        ) (goes-on (exists alive on s) _)

IsMarkedAnd-map : (P Q : Tree → Type 0) → ((s : Tree) → P s → Q s) → (mark : Option Mark) (body : Tree)
    → IsMarkedAnd mark body P → IsMarkedAnd mark body Q
IsMarkedAnd-map P Q h None body is = absurd is
IsMarkedAnd-map P Q h (Some m) body is = at_member (member_at (members_of body) m.member) is
  where
    at_member : (found : Option Tree) → IsSomeAnd found P → IsSomeAnd found Q
    at_member None is = absurd is
    at_member (Some s) is = h s is

not-paid : (pay : PlainPay) (rank : ℕ → ℕ) (T : ℕ) (o : Outcome) (event : Event)
    → IsMarkedAnd pay.mark pay.body (λ s. exists (lives_before rank o event) (terms_before event) s
    ≡ exists (lives_after rank o event) (terms_after event) s)
    → falls_on pay rank T o event ≡ false
not-paid pay rank T o event h =
    rw (stays (lives_before rank o event) (lives_after rank o event) (terms_before event) (terms_after event) pay.mark
    pay.body h) (and-false _)

-- a status that does not name the life that leaves exists after it as before
pub unnamed-at-leaving : (rank : ℕ → ℕ) (o : Outcome) (a : ℕ) (x : Exit) (s : Tree) → names_life a s ≡ false
    → exists (lives_before rank o (leaves a x)) (terms_before (leaves a x)) s
    ≡ exists (lives_after rank o (leaves a x)) (terms_after (leaves a x)) s
unnamed-at-leaving rank o a x s silent = agree _ _ _ _ s
    (λ i e. let q : nat_eq a i ≡ false = other-than a i (λ same. let f : names_life a s ≡ true = rw (← same) e in cc) in
    rw q (sym (and-true (lives_before rank o (leaves a x) i))))
    (λ n e. sym (and-true (terms_before (leaves a x) n)))

-- nor does one that does not name the term that ends change
pub unnamed-at-end : (rank : ℕ → ℕ) (o : Outcome) (n : ℕ) (s : Tree) → names_term n s ≡ false
    → exists (lives_before rank o (ends n)) (terms_before (ends n)) s
    ≡ exists (lives_after rank o (ends n)) (terms_after (ends n)) s
unnamed-at-end rank o n s silent = agree _ _ _ _ s
    (λ i e. sym (and-true (lives_before rank o (ends n) i)))
    (λ m e. let q : nat_eq n m ≡ false = other-than n m (λ same. let f : names_term n s ≡ true = rw (← same) e in cc) in
    rw q (sym (and-true (terms_before (ends n) m))))

no-leaving : (pay : PlainPay) (rank : ℕ → ℕ) (T a k : ℕ) → IsMarkedAnd pay.mark pay.body (λ s. names_life a s ≡ false)
    → (o : Outcome) (way : Option Exit) → indicator (paid_at_exit pay rank T a k o way) ≡ pos 0
no-leaving pay rank T a k silent o None = refl
no-leaving pay rank T a k silent o (Some x) =
    rw (
      not-paid pay rank T o (leaves a x) (IsMarkedAnd-map _ _ (unnamed-at-leaving rank o a x) pay.mark pay.body
          silent),
      and-false (nat_eq x.year k),
    )

no-end : (pay : PlainPay) (rank : ℕ → ℕ) (T n : ℕ) → IsMarkedAnd pay.mark pay.body (λ s. names_term n s ≡ false)
    → (o : Outcome) → indicator (falls_on pay rank T o (ends n)) ≡ pos 0
no-end pay rank T n silent o =
    rw (not-paid pay rank T o (ends n) (IsMarkedAnd-map _ _ (unnamed-at-end rank o n) pay.mark pay.body silent))

pub no-chance-on-other-leaving : NoChanceOnOtherLeaving
no-chance-on-other-leaving pay rank T a k silent S lives =
    int_sum_over-ext (outcomes T S lives) _ _
    (λ o. ap (λ z. pos (weight lives o) *ℤ z) (no-leaving pay rank T a k silent o (get_or o a None)))
    ∙ expected-none T S lives

pub no-chance-on-other-end : NoChanceOnOtherEnd
no-chance-on-other-end pay rank T n silent S lives =
    int_sum_over-ext (outcomes T S lives) _ _ (λ o. ap (λ z. pos (weight lives o) *ℤ z) (no-end pay rank T n silent o))
    ∙ expected-none T S lives
