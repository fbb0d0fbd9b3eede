-- The chance that a payment falls on the end of a term.
use Rattle.std.proofs.Common.{◌≡◌, ◌≢◌, ℕ, ◌-◌, ◌<◌, ◌≤◌, arith, refl, ap, sym, ◌∙◌, List, get_or, Bool, not, ◌&&◌, nat_eq, nat_lt, nat_le, Option, Some, None, pos, ◌*ℤ◌}
use Rattle.std.specs.Prelude.{IfSome, IsTrue}
use Rattle.std.proofs.Math.Path.{fun_ext}
use Rattle.std.proofs.Math.Bool.{and-true}
use Rattle.std.proofs.lemmas.Bool.Decides.{nat_tests}
use Rattle.halo_sums.specs.Sums.{indicator}
use Rattle.halo_sums.specs.Sets.{in_set}
use Rattle.halo_sums.proofs.IntSums.{int_sum_over-ext}
use Rattle.halo_status.specs.Tree.{Tree}
use Rattle.halo_status.specs.Exists.{IsSubset, exists}
use Rattle.halo_status.specs.Naming.{names_term}
use Rattle.halo_status.specs.Pay.{PlainPay}
use Rattle.halo_status.specs.declared.pay.Mark.{Mark}
use Rattle.halo_model.specs.Outcome.{Exit, Outcome, outcomes, weight}
use Rattle.halo_model.specs.There.{there, there_at}
use Rattle.halo_model.specs.Event.{ends, life_not_earlier, lives_after, lives_before, terms_after, terms_before}
use Rattle.halo_model.specs.Payment.{falls_on, fails_by_mark, members_of}
use Rattle.halo_model.specs.Chance.{IsValidInsurance, OfMarked, ending}
use Rattle.halo_model.specs.ChanceLaws.{ChanceOnEnd}
use Rattle.halo_status.proofs.Agreement.{agree}
use Rattle.halo_model.proofs.Fails.{OthersStay, fails-is}
use Rattle.halo_model.proofs.Falls.{in_set-there_at, reached}
use Rattle.halo_model.proofs.Leaving.{expected-by-coefficients}
use Rattle.halo_model.proofs.Marked.{ApartFrom, apart-from-marked, valid-mark}

-- just before the end of a term of n years the lives that are there at n are there: those of the year have left
there-at-end : (rank : ℕ → ℕ) (n i : ℕ) → 0 < n → (way : Option Exit)
    → life_not_earlier rank (ends n) i way ≡ there n way
there-at-end rank n i positive None = refl
there-at-end rank n i positive (Some y) = same n y.year positive
  where
    same : (n y : ℕ) → 0 < n → nat_lt (n - 1) y ≡ nat_le n y
    same n y h = grind (arith, nat_tests)

other-term : (n m : ℕ) → m ≢ n → nat_le n m ≡ nat_lt n m
other-term n m h = grind (arith, nat_tests)

without-own : (n m : ℕ) → (nat_le n m && not (nat_eq n m)) ≡ nat_lt n m
without-own n m = grind (arith, nat_tests)

longer-subset : (n : ℕ) → IsSubset (λ m. nat_lt n m) (λ m. nat_le n m)
longer-subset n m h = grind (arith, nat_tests)

-- a status that does not name a term exists with it as without it
unnamed-term : (alive : ℕ → Bool) (n : ℕ) (t : Tree) → (IsTrue (names_term n t) → ⊥)
    → exists alive (λ m. nat_le n m) t ≡ exists alive (λ m. nat_lt n m) t
unnamed-term alive n t silent =
    agree alive alive (λ m. nat_le n m) (λ m. nat_lt n m) t (λ i e. refl)
    (λ m e. other-term n m (λ q. silent (rw q at e)))

module _ (pay : PlainPay) (is : IsValidInsurance pay) (any_cause : pay.causes ≡ None) (rank : ℕ → ℕ) (T n : ℕ)
    (positive : 0 < n) (named : OfMarked pay.mark pay.body (λ s. IsTrue (names_term n s))) where
  others-stay : (alive : ℕ → Bool)
      → IfSome pay.mark (λ m. OthersStay alive alive (λ m. nat_le n m) (λ m. nat_lt n m) m.member (members_of pay.body))
  others-stay alive =
      go pay.mark (apart-from-marked pay.mark pay.body (valid-mark pay is) (λ s. IsTrue (names_term n s)) named)
    where
      go : (mark : Option Mark) → IfSome mark (ApartFrom pay.body (λ s. IsTrue (names_term n s)))
          → IfSome mark (λ m. OthersStay alive alive (λ m. nat_le n m) (λ m. nat_lt n m) m.member (members_of pay.body))
      go None h = tt
      go (Some m) h =
          λ q t other at. let apart = h q t other at in unnamed-term alive n t (λ names. apart.2.terms n apart.1 names)

  at-end : (o : Outcome) → pay.defer ≤ n - 1 → T ≤ n - 1
      → indicator (falls_on pay rank T o (ends n)) ≡ ending pay n (there_at (λ i. n) o)
  at-end o deferred started =
      rw (any_cause, reached pay.defer (n - 1) deferred, reached T (n - 1) started, before, past)
      (fails-is (in_set u) (in_set u) (λ m. nat_le n m) (λ m. nat_lt n m) (λ i h. h) (longer-subset n) pay.mark pay.body
      (is.valid.lasting is.kind) (valid-mark pay is) (others-stay (in_set u)))
    where
      u : List Bool
      u = there_at (λ i. n) o

      lives_there : (i : ℕ) → lives_before rank o (ends n) i ≡ in_set u i
      lives_there i = there-at-end rank n i positive (get_or o i None) ∙ sym (in_set-there_at (λ i. n) o i)

      before : fails_by_mark pay.mark pay.body (lives_before rank o (ends n)) (terms_before (ends n))
          (lives_after rank o (ends n)) (terms_after (ends n))
          ≡ fails_by_mark pay.mark pay.body (in_set u) (λ m. nat_le n m) (lives_after rank o (ends n))
          (terms_after (ends n))
      before =
          ap (λ alive. fails_by_mark pay.mark pay.body alive (λ m. nat_le n m) (lives_after rank o (ends n))
          (terms_after (ends n))) (fun_ext lives_there)

      past : fails_by_mark pay.mark pay.body (in_set u) (λ m. nat_le n m) (lives_after rank o (ends n))
          (terms_after (ends n))
          ≡ fails_by_mark pay.mark pay.body (in_set u) (λ m. nat_le n m) (in_set u) (λ m. nat_lt n m)
      past =
          ap (λ alive. fails_by_mark pay.mark pay.body (in_set u) (λ m. nat_le n m) alive (terms_after (ends n)))
          (fun_ext (λ i. and-true (lives_before rank o (ends n) i) ∙ lives_there i))
          ∙ ap (λ on. fails_by_mark pay.mark pay.body (in_set u) (λ m. nat_le n m) (in_set u) on)
          (fun_ext (without-own n))

pub chance-on-end : ChanceOnEnd
chance-on-end pay is any_cause rank T n positive deferred started named S lives rule =
    int_sum_over-ext (outcomes T S lives) _ _
    (λ o. ap (λ z. pos (weight lives o) *ℤ z) (at-end pay is any_cause rank T n positive named o deferred started))
    ∙ expected-by-coefficients (λ i. n) T (λ i. omega arith) S lives rule (ending pay n)
