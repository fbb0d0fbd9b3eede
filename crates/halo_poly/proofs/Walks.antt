-- A pass that goes over the sets within some lives alone, from one to the next.
use Rattle.std.proofs.Common.{◌≡◌, ℕ, ◌+◌, ◌<◌, ◌≤◌, arith, refl, sym, ◌∙◌, ⊎_elim, List, length, set, Bool, true, false, cond, ℤ}
use Rattle.std.proofs.lemmas.Bool.{cases_lt}
use Rattle.halo_sums.specs.Within.{is_within}
use Rattle.halo_sums.proofs.Within.{within-below}
use Rattle.halo_poly.specs.Poly.{coefficient_at}
use Rattle.halo_poly.proofs.Parts.{none_within}
use Rattle.halo_poly.proofs.Steps.{HasPassed, none_passed, one_passed}

-- a pass changes the sets within some lives, and keeps the others
abbrev pub made_within : ℕ → (ℕ → ℤ) → List ℤ → ℕ → ℤ
made_within all made old k = cond (is_within k all) (made k) (coefficient_at old k)

-- it has come to a set within them
pub record HasCome (all : ℕ) (made : ℕ → ℤ) (old now : List ℤ) (set : ℕ) : Type 0 where
  pub within : is_within set all ≡ true
  pub passed : HasPassed (made_within all made old) old now (set + 1)

-- places that a pass keeps
skipped : (passed : ℕ → ℤ) (old now : List ℤ) (from to : ℕ) → HasPassed passed old now from → from ≤ to
    → ((k : ℕ) → from ≤ k → k < to → passed k ≡ coefficient_at old k) → HasPassed passed old now to
skipped passed old now from to h le kept = record {
  same = h.same;
  done = λ k l. ⊎_elim
      (λ (q : k < from). h.done k q)
      (λ (q : from ≤ k). h.rest k q ∙ sym (kept k q l))
      (cases_lt k from);
  rest = λ k l. h.rest k (omega arith);
}

module _ (all : ℕ) (made : ℕ → ℤ) (old : List ℤ) where
  made_inside : (k : ℕ) → is_within k all ≡ true → made_within all made old k ≡ made k
  made_inside k e = rw e refl

  made_outside : (k : ℕ) → is_within k all ≡ false → made_within all made old k ≡ coefficient_at old k
  made_outside k e = rw e refl

  -- where a place is kept by what is made there, the pass keeps it
  pub made_same : (k : ℕ) → made k ≡ coefficient_at old k → made_within all made old k ≡ coefficient_at old k
  made_same k e = by_test (is_within k all)
    where
      by_test : (b : Bool) → cond b (made k) (coefficient_at old k) ≡ coefficient_at old k
      by_test true = e
      by_test false = refl

  -- at the empty set, where something is written or nothing changes
  pub come_first : (z : ℤ) → 0 < length old → z ≡ made 0 → HasCome all made old (set old 0 z) 0
  come_first z some e = record {
    within = none_within all;
    passed = one_passed _ old old 0 z (none_passed _ old) some (e ∙ sym (made_inside 0 (none_within all)));
  }

  pub come_kept : made 0 ≡ coefficient_at old 0 → HasCome all made old old 0
  come_kept e = record {
    within = none_within all;
    passed = skipped _ old old 0 1 (none_passed _ old) (omega arith) (λ k low high. let first : k ≡ 0 =
        omega arith in rw first (made_same 0 e));
  }

  module _ (now : List ℤ) (set_at next : ℕ) (come : HasCome all made old now set_at) where
    -- up to the next set all are kept
    pub come_to : set_at < next → ((k : ℕ) → is_within k all ≡ true → set_at < k → next ≤ k)
        → HasPassed (made_within all made old) old now next
    come_to later first = skipped _ old now (set_at + 1) next come.passed (omega arith)
        (λ k low high. between k low high (is_within k all) refl)
      where
        between : (k : ℕ) → set_at + 1 ≤ k → k < next → (b : Bool) → is_within k all ≡ b
            → made_within all made old k ≡ coefficient_at old k
        between k low high true e = absurd (omega (arith, first k e (omega arith)))
        between k low high false e = made_outside k e

    -- and there what is made is written
    pub come_next : (z : ℤ) → is_within next all ≡ true → next < length old
        → HasPassed (made_within all made old) old now next → z ≡ made next
        → HasCome all made old (set now next z) next
    come_next z within few h e = record {
      within = within;
      passed = one_passed _ old now next z h few (e ∙ sym (made_inside next within));
    }

  -- at the last set, all are done
  pub come_last : (now : List ℤ) → HasCome all made old now all → (k : ℕ)
      → coefficient_at now k ≡ cond (is_within k all) (made k) (coefficient_at old k)
  come_last now come k = ⊎_elim
      (λ (low : k < all + 1). come.passed.done k low)
      (λ (high : all + 1 ≤ k). come.passed.rest k high ∙ sym (above (is_within k all) refl high))
      (cases_lt k (all + 1))
    where
      above : (b : Bool) → is_within k all ≡ b → all + 1 ≤ k → made_within all made old k ≡ coefficient_at old k
      above true e high = absurd (omega (arith, within-below k all e))
      above false e high = made_outside k e
