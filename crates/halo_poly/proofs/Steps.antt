-- A pass goes over the masks in their order, and writes the places one by one.
use Rattle.std.proofs.Common.{◌≡◌, ◌≢◌, ℕ, ◌+◌, ◌-◌, ◌^◌, ◌<◌, ◌≤◌, arith, refl, sym, ◌∙◌, ⊎_elim, List, length, length-set, set, Bool, true, false, cond, ℤ, pos, ◌-ℤ◌, SFits, w64, to_z, of_z}
use Rattle.std.proofs.lemmas.Bool.{cases_lt}
use Rattle.std.proofs.lemmas.Int.{ints, to_z-of_z}
use Rattle.std.proofs.lemmas.Nat.{pow_pos}
use Rattle.std.proofs.lemmas.List.{get_or-set_same, get_or-set_other, get_or_past}
use Rattle.halo_sums.specs.Masks.{has_bit}
use Rattle.halo_poly.specs.Poly.{coefficient_at}
use Rattle.halo_poly.specs.Transform.{without}
use Rattle.halo_poly.proofs.Masks.{has_bit-le, has_bit-cleared}

-- the places before a mask hold what a pass makes of them, the others what they held
pub record HasPassed (passed : ℕ → ℤ) (old now : List ℤ) (mask : ℕ) : Type 0 where
  pub same : length now ≡ length old
  pub done : (k : ℕ) → k < mask → coefficient_at now k ≡ passed k
  pub rest : (k : ℕ) → mask ≤ k → coefficient_at now k ≡ coefficient_at old k

pub none_passed : (passed : ℕ → ℤ) (old : List ℤ) → HasPassed passed old old 0
none_passed passed old = record { same = refl; done = λ k h. absurd (omega arith); rest = λ k h. refl }

-- one place more
pub one_passed : (passed : ℕ → ℤ) (old now : List ℤ) (mask : ℕ) (z : ℤ) → HasPassed passed old now mask
    → mask < length old → z ≡ passed mask → HasPassed passed old (set now mask z) (mask + 1)
one_passed passed old now mask z h within e = record {
  same = simp length-set h.same;
  done = λ k l. ⊎_elim
      (λ (q : k < mask). let ne : k ≢ mask = omega arith in get_or-set_other now mask k z (pos 0) ne ∙ h.done k q)
      (λ (q : mask ≤ k). let same : k ≡ mask =
      omega arith in rw same (get_or-set_same now mask z (pos 0) (omega (arith, h.same)) ∙ e))
      (cases_lt k mask);
  rest = λ k l. let ne : k ≢ mask = omega arith in get_or-set_other now mask k z (pos 0) ne ∙ h.rest k (omega arith);
}

-- where a pass changes nothing at the sets without the life, it finds there what was there
pub without-passed : (passed : ℕ → ℤ) (old now : List ℤ) (mask life : ℕ) → HasPassed passed old now mask
    → ((k : ℕ) → has_bit k life ≡ false → passed k ≡ coefficient_at old k)
    → without now life mask ≡ without old life mask
unfolding without
without-passed passed old now mask life h stays = go (has_bit mask life) refl
  where
    go : (b : Bool) → has_bit mask life ≡ b
        → cond b (coefficient_at now (mask - 2 ^ life)) (pos 0) ≡ cond b (coefficient_at old (mask - 2 ^ life)) (pos 0)
    go false e = refl
    go true e =
        let low = has_bit-le mask life e in
        h.done (mask - 2 ^ life) (omega (arith, low, pow_pos life))
        ∙ stays (mask - 2 ^ life) (has_bit-cleared mask life e)

-- which holds of a pass that adds or takes away what there is without the life
pub without-none : (old : List ℤ) (life k : ℕ) → has_bit k life ≡ false → without old life k ≡ pos 0
unfolding without
without-none old life k e = rw e refl

-- after all places, where a pass makes 0 of those past the end
pub all_passed : (passed : ℕ → ℤ) (old now : List ℤ) (mask : ℕ) → HasPassed passed old now mask → length old ≤ mask
    → ((k : ℕ) → length old ≤ k → passed k ≡ pos 0)
    → (k : ℕ) → coefficient_at now k ≡ passed k
all_passed passed old now mask h all none k = ⊎_elim
    (λ (q : k < mask). h.done k q)
    (λ (q : mask ≤ k). get_or_past now k (pos 0) (omega (arith, h.same)) ∙ sym (none k (omega arith)))
    (cases_lt k mask)

-- what a pass that takes away computes, from numbers that fit
pub difference_computed : (passed : ℕ → ℤ) (old now : List ℤ) (mask life : ℕ) (w : ℤ)
    → SFits w64 (coefficient_at now mask) → SFits w64 w → w ≡ without now life mask → HasPassed passed old now mask
    → ((k : ℕ) → has_bit k life ≡ false → passed k ≡ coefficient_at old k)
    → to_z w64 (of_z w64 (coefficient_at now mask)) -ℤ to_z w64 (of_z w64 w)
    ≡ coefficient_at old mask -ℤ without old life mask
difference_computed passed old now mask life w f g e h stays =
    rw (
      to_z-of_z w64 (coefficient_at now mask) f,
      to_z-of_z w64 w g,
      e,
      h.rest mask (omega arith),
      without-passed passed old now mask life h stays,
    )
    refl

-- a set without the life has nothing to be taken
pub nothing_taken : (old : List ℤ) (life k : ℕ) → has_bit k life ≡ false
    → coefficient_at old k -ℤ without old life k ≡ coefficient_at old k
nothing_taken old life k e = omega (arith, ints, without-none old life k e)
