-- Where an event cannot come or a pay does not allow it, no payment falls on it.
use Rattle.std.proofs.Common.{◌≡◌, ℕ, zero, suc, ◌≤◌, arith, refl, ap, ◌∙◌, List, [], ◌∷◌, get_or, Bool, true, false, ◌&&◌, nat_eq, nat_le, Option, Some, None, pos, ◌*ℤ◌, ⊎_elim}
use Rattle.std.proofs.Math.Bool.{and-false}
use Rattle.std.proofs.lemmas.Bool.Decides.{eqb_tells, nat_tests}
use Rattle.halo_sums.specs.Sums.{indicator}
use Rattle.halo_sums.proofs.IntSums.{int_sum_over-ext}
use Rattle.halo_status.specs.Pay.{PlainPay}
use Rattle.halo_model.specs.Life.{PlainLife, after_first}
use Rattle.halo_model.specs.Outcome.{Exit, Outcome, outcomes, weight}
use Rattle.halo_model.specs.Event.{Event, ends, leaves, lives_after, lives_before, terms_after, terms_before, year_of}
use Rattle.halo_model.specs.Payment.{by_cause, fails_by_mark, falls_on}
use Rattle.halo_model.specs.Expectation.{HasYear}
use Rattle.halo_model.specs.Chance.{paid_at_exit}
use Rattle.halo_model.specs.ChanceLaws.{NoChanceOnEndOutside, NoChanceOnLeavingOutside}
use Rattle.halo_model.proofs.Expected.{Comes, expected-none, expected-where}

-- an exit that comes is that of a life that is alive at T, in a year from T on that its table has
pub comes-year : (T : ℕ) (S : ℕ → Bool) (lives : List PlainLife) (o : Outcome) → Comes T S lives o → (a : ℕ) (x : Exit)
    → get_or o a None ≡ Some x → (S a ≡ true) × (T ≤ x.year) × HasYear a x.year lives
comes-year T S [] [] comes a x e = absurd (cc)
comes-year T S [] (way ∷ o) comes a x e = absurd comes
comes-year T S (y ∷ lives) [] comes a x e = absurd comes
comes-year T S (y ∷ lives) (way ∷ o) comes zero x e = rw e at comes.0
comes-year T S (y ∷ lives) (way ∷ o) comes (suc a) x e = comes-year T (after_first S) lives o comes.1 a x e

refused : (b : Bool) → (b ≡ true → ⊥) → b ≡ false
refused true h = absurd (h refl)
refused false h = refl

-- what a payment on an event tells
pub record Allowed (pay : PlainPay) (T : ℕ) (event : Event) : Type 0 where
  pub deferred : pay.defer ≤ year_of event
  pub started : T ≤ year_of event
  pub cause : by_cause pay.causes event ≡ true

tested : (m n : ℕ) → nat_le m n ≡ true → m ≤ n
tested m n h = grind (arith, nat_tests)

four : (a b c d : Bool) → (a && b && c && d) ≡ true → (a ≡ true) × (b ≡ true) × (c ≡ true)
four true true true d e = (refl, refl, refl)
four true true false d e = absurd (cc)
four true false c d e = absurd (cc)
four false b c d e = absurd (cc)

pub allowed : (pay : PlainPay) (rank : ℕ → ℕ) (T : ℕ) (o : Outcome) (event : Event)
    → falls_on pay rank T o event ≡ true → Allowed pay T event
allowed pay rank T o event e =
    let all = four (nat_le pay.defer (year_of event)) (nat_le T (year_of event)) (by_cause pay.causes event)
    (fails_by_mark pay.mark pay.body (lives_before rank o event) (terms_before event)
    (lives_after rank o event) (terms_after event)) e in
    record { deferred = tested _ _ all.0; started = tested _ _ all.1; cause = all.2 }

pub no-chance-on-leaving-outside : NoChanceOnLeavingOutside
no-chance-on-leaving-outside pay rank T a k S lives cannot =
    expected-where T S lives _ _ (λ o comes. ap indicator (go o comes (get_or o a None) refl)) ∙ expected-none T S lives
  where
    in-year : (o : Outcome) → Comes T S lives o → (x : Exit) → get_or o a None ≡ Some x → x.year ≡ k
        → falls_on pay rank T o (leaves a x) ≡ true → ⊥
    in-year o comes x e here paid =
        let is = comes-year T S lives o comes a x e in
        let by = allowed pay rank T o (leaves a x) paid in
        cannot is.0 (rw here at is.1) (rw here at by.deferred) (rw here at is.2)

    go : (o : Outcome) → Comes T S lives o → (way : Option Exit) → get_or o a None ≡ way
        → paid_at_exit pay rank T a k o way ≡ false
    go o comes None e = refl
    go o comes (Some x) e = ⊎_elim
        (λ h. rw (refused (falls_on pay rank T o (leaves a x)) (in-year o comes x e h.1)) (and-false (nat_eq x.year k)))
        (λ h. rw h.0 refl)
        (eqb_tells x.year k)

no-cause : (causes : Option ℕ) (n : ℕ) → by_cause causes (ends n) ≡ true → causes ≡ None
no-cause None n e = refl
no-cause (Some causes) n e = absurd (cc)

pub no-chance-on-end-outside : NoChanceOnEndOutside
no-chance-on-end-outside pay rank T n S lives cannot =
    int_sum_over-ext (outcomes T S lives) _ _
    (λ o. ap (λ b. pos (weight lives o) *ℤ indicator b)
    (refused (falls_on pay rank T o (ends n))
    (λ paid. let by = allowed pay rank T o (ends n) paid in cannot (no-cause pay.causes n by.cause)
    by.deferred by.started)))
    ∙ expected-none T S lives
