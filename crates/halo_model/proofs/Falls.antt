-- The chance that a payment falls on a life's leaving.
use Rattle.std.proofs.Common.{◌≡◌, ◌≢◌, ℕ, zero, suc, ◌<◌, ◌≤◌, arith, refl, ap, sym, ◌∙◌, List, [], ◌∷◌, length, get_or, set, Bool, true, false, cond, ◌&&◌, ◌||◌, nat_eq, nat_lt, nat_le, Option, Some, None, get_or-set_same, get_or-set_other, ◌*ℤ◌, ⊎_elim}
use Rattle.std.specs.Prelude.{IfSome, IsTrue}
use Rattle.std.proofs.Math.Path.{fun_ext}
use Rattle.std.proofs.Math.Bool.{and-true, and-false}
use Rattle.std.proofs.lemmas.Bool.{cases_lt}
use Rattle.std.proofs.lemmas.Bool.Decides.{eqb_tells, nat_tests}
use Rattle.std.proofs.lemmas.Int.{ints}
use Rattle.halo_sums.specs.Sums.{indicator}
use Rattle.halo_sums.specs.Sets.{in_set}
use Rattle.halo_status.specs.Tree.{Tree}
use Rattle.halo_status.specs.Exists.{IsSubset, exists}
use Rattle.halo_status.specs.Naming.{names_life}
use Rattle.halo_status.specs.Pay.{PlainPay}
use Rattle.halo_status.specs.declared.pay.Mark.{Mark}
use Rattle.halo_model.specs.Life.{after_first}
use Rattle.halo_model.specs.Outcome.{Exit, Outcome}
use Rattle.halo_model.specs.There.{there, there_at}
use Rattle.halo_model.specs.Event.{leaves, life_not_earlier, lives_after, lives_before, terms_after, terms_before}
use Rattle.halo_model.specs.Payment.{by_cause, falls_on, fails_by_mark, members_of}
use Rattle.halo_model.specs.Coefficient.{existence, form}
use Rattle.halo_model.specs.Expectation.{derivative, leaves_in, looked_at}
use Rattle.halo_model.specs.Chance.{IsValidInsurance, OfMarked, asked, paid_at_exit, paid_on_leaving}
use Rattle.halo_model.specs.ChanceLaws.{ChanceOnLeaving}
use Rattle.halo_status.proofs.Agreement.{agree}
use Rattle.halo_model.proofs.Expected.{expected-ext}
use Rattle.halo_model.proofs.Fails.{OthersStay, fails-is}
use Rattle.halo_model.proofs.Marked.{ApartFrom, apart-from-marked, valid-mark}
use Rattle.halo_model.proofs.Leaving.{HasYear-within, expected-at-leaving}

length-there_at : (times : ℕ → ℕ) (o : Outcome) → length (there_at times o) ≡ length o
length-there_at times [] = refl
length-there_at times (way ∷ o) = ap suc (length-there_at (after_first times) o)

pub in_set-there_at : (times : ℕ → ℕ) (o : Outcome) (i : ℕ)
    → in_set (there_at times o) i ≡ there (times i) (get_or o i None)
in_set-there_at times [] i = refl
in_set-there_at times (way ∷ o) zero = refl
in_set-there_at times (way ∷ o) (suc i) = in_set-there_at (after_first times) o i

first-earlier : (k y r s : ℕ) → r < s → (nat_lt k y || (nat_eq k y && nat_le s r)) ≡ nat_le (suc k) y
first-earlier k y r s h = grind (arith, nat_tests)

first-later : (k y r s : ℕ) → s ≤ r → (nat_lt k y || (nat_eq k y && nat_le s r)) ≡ nat_le k y
first-later k y r s h = grind (arith, nat_tests)

is-before : (r s : ℕ) → r < s → nat_lt r s ≡ true
is-before r s h = grind (arith, nat_tests)

is-not-before : (r s : ℕ) → s ≤ r → nat_lt r s ≡ false
is-not-before r s h = grind (arith, nat_tests)

own : (k r : ℕ) → (nat_lt k k || (nat_eq k k && nat_le r r)) ≡ true
own k r = grind (arith, nat_tests)

same-is : (a : ℕ) → nat_eq a a ≡ true
same-is a = grind (arith, nat_tests)

other-is : (a i : ℕ) → i ≢ a → nat_eq a i ≡ false
other-is a i h = grind (arith, nat_tests)

-- another life is there before the leaving of life a where it is there at the time at which it is looked at
other-there : (rank : ℕ → ℕ) (a i : ℕ) (x : Exit) (way : Option Exit)
    → life_not_earlier rank (leaves a x) i way ≡ there (looked_at rank a x.year i) way
other-there rank a i x None = refl
other-there rank a i x (Some y) = ⊎_elim
    (λ before. rw (first-earlier x.year y.year (rank i) (rank a) before, is-before (rank i) (rank a) before))
    (λ not_before. rw (
      first-later x.year y.year (rank i) (rank a) not_before,
      is-not-before (rank i) (rank a)
          not_before,
    ))
    (cases_lt (rank i) (rank a))

module _ (rank : ℕ → ℕ) (o : Outcome) (a : ℕ) (x : Exit) (e : get_or o a None ≡ Some x) (within : a < length o) where
  abbrev others_there : List Bool
  others_there = there_at (looked_at rank a x.year) o

  -- just before the leaving life a is there too, and just after it is not
  before-leaving : (i : ℕ) → lives_before rank o (leaves a x) i ≡ in_set (set others_there a true) i
  before-leaving i = ⊎_elim
      (λ h. rw (h.1, e, own x.year (rank a)) (sym
      (get_or-set_same others_there a true false (omega (arith, length-there_at (looked_at rank a x.year) o)))))
      (λ h. other-there rank a i x (get_or o i None) ∙ sym (in_set-there_at (looked_at rank a x.year) o i)
      ∙ sym (get_or-set_other others_there a i true false h.1))
      (eqb_tells i a)

  after-leaving : (i : ℕ) → lives_after rank o (leaves a x) i ≡ in_set (set others_there a false) i
  after-leaving i = ⊎_elim
      (λ h. rw (h.1, same-is a, and-false (lives_before rank o (leaves a x) a))
      (sym (get_or-set_same others_there a false false
      (omega (arith, length-there_at (looked_at rank a x.year) o)))))
      (λ h. rw (other-is a i h.1, and-true (lives_before rank o (leaves a x) i))
      (before-leaving i ∙ get_or-set_other others_there a i true false h.1
      ∙ sym (get_or-set_other others_there a i false false h.1)))
      (eqb_tells i a)

without-subset : (u : List Bool) (a : ℕ) → IsSubset (in_set (set u a false)) (in_set (set u a true))
without-subset [] a i e = e
without-subset (b ∷ u) zero zero e = refl
without-subset (b ∷ u) zero (suc i) e = e
without-subset (b ∷ u) (suc a) zero e = e
without-subset (b ∷ u) (suc a) (suc i) e = without-subset u a i e

pub indicator-and : (c e : Bool) → indicator (c && e) ≡ indicator c *ℤ indicator e
indicator-and true true = refl
indicator-and true false = refl
indicator-and false true = refl
indicator-and false false = refl

by_cause-asked : (causes : Option ℕ) (a : ℕ) (x : Exit) → by_cause causes (leaves a x) ≡ asked causes x.cause
by_cause-asked None a x = refl
by_cause-asked (Some causes) a x = refl

pub reached : (m n : ℕ) → m ≤ n → nat_le m n ≡ true
reached m n h = grind (arith, nat_tests)

-- a status that does not name life a exists with it as without it
unnamed-life : (u : List Bool) (a : ℕ) (on : ℕ → Bool) (t : Tree) → (IsTrue (names_life a t) → ⊥)
    → exists (in_set (set u a true)) on t ≡ exists (in_set (set u a false)) on t
unnamed-life u a on t silent =
    agree (in_set (set u a true)) (in_set (set u a false)) on on t (λ i e. other i (λ q. silent (rw q at e)))
    (λ n e. refl)
  where
    other : (i : ℕ) → (i ≡ a → ⊥) → in_set (set u a true) i ≡ in_set (set u a false) i
    other i h = get_or-set_other u a i true false h ∙ sym (get_or-set_other u a i false false h)

module _ (pay : PlainPay) (is : IsValidInsurance pay) (rank : ℕ → ℕ) (T : ℕ) where
  others-stay : (u : List Bool) (a : ℕ) (on : ℕ → Bool) → OfMarked pay.mark pay.body (λ s. IsTrue (names_life a s))
      → IfSome pay.mark (λ m. OthersStay (in_set (set u a true)) (in_set (set u a false)) on on m.member
      (members_of pay.body))
  others-stay u a on named =
      go pay.mark (apart-from-marked pay.mark pay.body (valid-mark pay is) (λ s. IsTrue (names_life a s)) named)
    where
      go : (mark : Option Mark) → IfSome mark (ApartFrom pay.body (λ s. IsTrue (names_life a s)))
          → IfSome mark (λ m. OthersStay (in_set (set u a true)) (in_set (set u a false)) on on m.member
          (members_of pay.body))
      go None h = tt
      go (Some m) h =
          λ q t other at. let apart = h q t other at in unnamed-life u a on t (λ names. apart.2.lives a apart.1 names)

  at-exit : (o : Outcome) (a : ℕ) (x : Exit) → get_or o a None ≡ Some x → a < length o → pay.defer ≤ x.year → T ≤ x.year
      → OfMarked pay.mark pay.body (λ s. IsTrue (names_life a s))
      → indicator (falls_on pay rank T o (leaves a x))
      ≡ indicator (asked pay.causes x.cause) *ℤ derivative (existence pay x.year) a
      (there_at (looked_at rank a x.year) o)
  at-exit o a x e within deferred started named =
      rw (
        reached pay.defer x.year deferred,
        reached T x.year started,
        by_cause-asked pay.causes a x,
        is.kind,
        before,
        past,
      )
      (indicator-and (asked pay.causes x.cause)
      (fails_by_mark pay.mark pay.body (in_set (set u a true)) on (in_set (set u a false)) on)
      ∙ ap (λ z. indicator (asked pay.causes x.cause) *ℤ z)
      (fails-is (in_set (set u a true)) (in_set (set u a false)) on on (without-subset u a) (λ n h. h) pay.mark
      pay.body (is.valid.lasting is.kind) (valid-mark pay is) (others-stay u a on named)))
    where
      u : List Bool
      u = there_at (looked_at rank a x.year) o

      on : ℕ → Bool
      on n = nat_lt x.year n

      before : fails_by_mark pay.mark pay.body (lives_before rank o (leaves a x)) (terms_before (leaves a x))
          (lives_after rank o (leaves a x)) (terms_after (leaves a x))
          ≡ fails_by_mark pay.mark pay.body (in_set (set u a true)) on (lives_after rank o (leaves a x))
          (terms_after (leaves a x))
      before =
          ap (λ alive. fails_by_mark pay.mark pay.body alive on (lives_after rank o (leaves a x))
          (terms_after (leaves a x))) (fun_ext (before-leaving rank o a x e within))

      past : fails_by_mark pay.mark pay.body (in_set (set u a true)) on (lives_after rank o (leaves a x))
          (terms_after (leaves a x))
          ≡ fails_by_mark pay.mark pay.body (in_set (set u a true)) on (in_set (set u a false)) on
      past =
          ap (λ still_alive. fails_by_mark pay.mark pay.body (in_set (set u a true)) on still_alive
          (terms_after (leaves a x))) (fun_ext (after-leaving rank o a x e within))
          ∙ ap (λ still_on. fails_by_mark pay.mark pay.body (in_set (set u a true)) on (in_set (set u a false))
          still_on) (fun_ext (λ n. and-true (nat_lt x.year n)))

  on-leaving : (a k : ℕ) → pay.defer ≤ k → T ≤ k → OfMarked pay.mark pay.body (λ s. IsTrue (names_life a s))
      → (o : Outcome) → a < length o
      → indicator (paid_on_leaving pay rank T a k o)
      ≡ indicator (leaves_in (asked pay.causes) k (get_or o a None)) *ℤ derivative (existence pay k) a
      (there_at (looked_at rank a k) o)
  on-leaving a k deferred started named o within = go (get_or o a None) refl
    where
      in_year : (x : Exit) (k : ℕ) → x.year ≡ k
          → indicator (falls_on pay rank T o (leaves a x))
          ≡ indicator (asked pay.causes x.cause) *ℤ derivative (existence pay x.year) a
          (there_at (looked_at rank a x.year) o)
          → indicator (nat_eq x.year k && falls_on pay rank T o (leaves a x))
          ≡ indicator (nat_eq x.year k && asked pay.causes x.cause) *ℤ derivative (existence pay k) a
          (there_at (looked_at rank a k) o)
      in_year x k q h = rw (← q, same-is x.year) h

      go : (way : Option Exit) → get_or o a None ≡ way
          → indicator (paid_at_exit pay rank T a k o way)
          ≡ indicator (leaves_in (asked pay.causes) k way) *ℤ derivative (existence pay k) a
          (there_at (looked_at rank a k) o)
      go None e = omega (arith, ints)
      go (Some x) e = ⊎_elim
          (λ h. in_year x k h.1 (at-exit o a x e within (omega arith) (omega arith) named))
          (λ h. rw (h.0) (omega (arith, ints)))
          (eqb_tells x.year k)

pub chance-on-leaving : ChanceOnLeaving
unfolding form
chance-on-leaving pay is rank T a k deferred started named S alive lives rule year =
    expected-ext T S lives _ _ (λ o n. on-leaving pay is rank T a k deferred started named o
    (omega (arith, HasYear-within a k lives year)))
    ∙ expected-at-leaving a (asked pay.causes) k (looked_at rank a k) T started (λ i. from (nat_lt (rank i) (rank a))) S
    alive lives rule year (existence pay k)
  where
    from : (b : Bool) → T ≤ cond b (suc k) k
    from true = omega arith
    from false = started
