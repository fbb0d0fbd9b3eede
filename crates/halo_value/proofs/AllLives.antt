-- The set of twelve lives has all lives of a contract, and values at the start depend on no others.
use Rattle.std.proofs.Common.{◌≡◌, ℕ, zero, suc, ◌*◌, ◌<◌, ◌≤◌, Bool, cond, flat_map}
use Rattle.std.proofs.Common.{map, true, List, [], ◌∷◌, length, refl, ap, ◌∙◌, arith}
use Rattle.halo_sums.specs.Masks.{has_bit}
use Rattle.halo_sums.specs.Sums.{sum_over}
use Rattle.halo_num.specs.Ends.{Ends}
use Rattle.halo_status.specs.Exists.{exists}
use Rattle.halo_status.specs.Naming.{NamesLivesBelow}
use Rattle.halo_status.specs.Pay.{PlainPay}
use Rattle.halo_status.specs.Tree.{Tree}
use Rattle.halo_status.proofs.Agreement.{agree}
use Rattle.halo_contract.specs.Premium.{all_lives}
use Rattle.halo_model.specs.Basis.{Basis, accumulated, taken}
use Rattle.halo_model.specs.Enclosed.{EnclosesOne, of_one}
use Rattle.halo_model.specs.Life.{PlainLife, after_first}
use Rattle.halo_model.specs.Order.{rank_in}
use Rattle.halo_model.specs.Outcome.{Outcome, joint_survivors, outcomes, weight, ways}
use Rattle.halo_model.specs.Value.{denominator, numerator, outcome_value}
use Rattle.halo_value.specs.declared.pass.TheConstants.{ALL_LIVES}

-- each of the first twelve lives is in the set
pub in-all : (i : ℕ) → i < 12 → has_bit ALL_LIVES i ≡ true
in-all zero below = refl
in-all (suc zero) below = refl
in-all (suc (suc zero)) below = refl
in-all (suc (suc (suc zero))) below = refl
in-all (suc (suc (suc (suc zero)))) below = refl
in-all (suc (suc (suc (suc (suc zero))))) below = refl
in-all (suc (suc (suc (suc (suc (suc zero)))))) below = refl
in-all (suc (suc (suc (suc (suc (suc (suc zero))))))) below = refl
in-all (suc (suc (suc (suc (suc (suc (suc (suc zero)))))))) below = refl
in-all (suc (suc (suc (suc (suc (suc (suc (suc (suc zero))))))))) below = refl
in-all (suc (suc (suc (suc (suc (suc (suc (suc (suc (suc zero)))))))))) below = refl
in-all (suc (suc (suc (suc (suc (suc (suc (suc (suc (suc (suc zero))))))))))) below = refl
in-all (suc (suc (suc (suc (suc (suc (suc (suc (suc (suc (suc (suc i)))))))))))) below = absurd (omega (arith, below))

-- two sets have the same of some lives
abbrev pub AgreeBelow : ℕ → (ℕ → Bool) → (ℕ → Bool) → Type 0
AgreeBelow n S U = (i : ℕ) → i < n → S i ≡ U i

agree-next : (n : ℕ) (S U : ℕ → Bool) → AgreeBelow (suc n) S U → AgreeBelow n (after_first S) (after_first U)
agree-next n S U same i below = same (suc i) (omega (arith, below))

-- what can become of some lives depends on them alone
pub same-outcomes : (T : ℕ) (S U : ℕ → Bool) (lives : List PlainLife) → AgreeBelow (length lives) S U
    → outcomes T S lives ≡ outcomes T U lives
same-outcomes T S U [] same = refl
same-outcomes T S U (x ∷ lives) same =
    ap (λ (rest : List Outcome). flat_map (λ way. map (λ o. way ∷ o) rest) (ways T (S 0) x))
    (same-outcomes T (after_first S) (after_first U) lives (agree-next (length lives) S U same))
    ∙ ap (λ (alive : Bool). flat_map (λ way. map (λ o. way ∷ o) (outcomes T (after_first U) lives)) (ways T alive x))
    (same 0 (omega arith))

same-survivors : (T : ℕ) (S U : ℕ → Bool) (lives : List PlainLife) → AgreeBelow (length lives) S U
    → joint_survivors T S lives ≡ joint_survivors T U lives
same-survivors T S U [] same = refl
same-survivors T S U (x ∷ lives) same =
    ap (λ (rest : ℕ). cond (S 0) (x.survivors T) 1 * rest)
    (same-survivors T (after_first S) (after_first U) lives (agree-next (length lives) S U same))
    ∙ ap (λ (alive : Bool). cond alive (x.survivors T) 1 * joint_survivors T (after_first U) lives) (same 0 (omega
    arith))

-- and so do values
module _ (b : Basis) (T : ℕ) (S U : ℕ → Bool) (same : AgreeBelow (length b.lives) S U) where
  same-numerator : (pay : PlainPay) → numerator b pay T S ≡ numerator b pay T U
  unfolding numerator
  same-numerator pay =
      ap (λ (outcomes : List Outcome). sum_over (taken b)
      (λ order. sum_over outcomes (λ o. weight b.lives o * outcome_value b pay (rank_in order) T o)))
      (same-outcomes T S U b.lives same)

  pub same-denominator : denominator b T S ≡ denominator b T U
  unfolding denominator
  same-denominator =
      ap (λ (survivors : ℕ). length (taken b) * (survivors * accumulated b T)) (same-survivors T S U b.lives same)

  pub same-value : (pay : PlainPay) (i : Ends) → EnclosesOne b pay T S i → EnclosesOne b pay T U i
  same-value pay i is = record {
    encloses = rw (same-numerator (of_one pay), same-denominator) at is.encloses;
    narrow = is.narrow;
    within = is.within;
  }

-- the value with all lives alive
pub all-alive : (b : Basis) (pay : PlainPay) (i : Ends) → length b.lives ≤ 12
    → EnclosesOne b pay 0 (has_bit ALL_LIVES) i → EnclosesOne b pay 0 all_lives i
all-alive b pay i few = same-value b 0 (has_bit ALL_LIVES) all_lives (λ k below. in-all k (omega (
  arith,
  below,
  few,
))) pay i

-- a status that exists with all lives alive
pub exists-with-all : (n : ℕ) (on : ℕ → Bool) (status : Tree) → n ≤ 12 → NamesLivesBelow n status
    → exists all_lives on status ≡ true → exists (has_bit ALL_LIVES) on status ≡ true
exists-with-all n on status few named is =
    agree (has_bit ALL_LIVES) all_lives on on status
    (λ i names. in-all i (omega (arith, named i names, few))) (λ k names. refl) ∙ is
