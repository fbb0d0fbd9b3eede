-- The laws of chances: the weight of the outcomes on which a payment of an insurance falls on an
-- event, for any order of lives.
use Rattle.std.specs.Prelude.{◌≡◌, ℕ, ◌-◌, ◌<◌, ◌≤◌, Bool, false, IsTrue, List, length, None, pos, ◌*ℤ◌}
use Rattle.halo_sums.specs.Sums.{indicator, int_sum_over}
use Rattle.halo_sums.specs.Sets.{sets}
use Rattle.halo_sums.specs.Coefficients.{coefficient}
use Rattle.halo_status.specs.Naming.{names_life, names_term}
use Rattle.halo_status.specs.Pay.{PlainPay}
use Rattle.halo_model.specs.Life.{AreLives, PlainLife}
use Rattle.halo_model.specs.Event.{ends}
use Rattle.halo_model.specs.Payment.{falls_on}
use Rattle.halo_model.specs.Coefficient.{form}
use Rattle.halo_model.specs.Expectation.{HasYear, all_there, all_there_at_leaving, expected, looked_at}
use Rattle.halo_model.specs.Chance.{IsMarkedAnd, IsValidInsurance, OfMarked, asked, ending, paid_on_leaving}

-- On the leaving of life a in year k, in the marked member if there is a mark: a sum over the
-- coefficients of the form in that year, where the lives that come before a are looked at at k + 1
-- and the others at k
abbrev pub ChanceOnLeaving : Type 0
ChanceOnLeaving =
    (pay : PlainPay) → IsValidInsurance pay → (rank : ℕ → ℕ) (T a k : ℕ) → pay.defer ≤ k → T ≤ k
    → OfMarked pay.mark pay.body (λ s. IsTrue (names_life a s))
    → (S : ℕ → Bool) → IsTrue (S a) → (lives : List PlainLife) → AreLives lives → HasYear a k lives
    → expected T S lives (λ o. indicator (paid_on_leaving pay rank T a k o))
    ≡ int_sum_over (sets (length lives))
    (λ s. form pay k s
    *ℤ all_there_at_leaving a (asked pay.causes) k (looked_at rank a k) T S lives s)

-- on the leaving of a life that the marked member does not name: none
abbrev pub NoChanceOnOtherLeaving : Type 0
NoChanceOnOtherLeaving = (pay : PlainPay) (rank : ℕ → ℕ) (T a k : ℕ)
    → IsMarkedAnd pay.mark pay.body (λ s. names_life a s ≡ false)
    → (S : ℕ → Bool) (lives : List PlainLife)
    → expected T S lives (λ o. indicator (paid_on_leaving pay rank T a k o)) ≡ pos 0

-- On the end of a term of n years, in the marked member if there is a mark, for an insurance by any
-- cause: a sum over the coefficients of what f loses with the term, where the lives are looked at
-- at n
abbrev pub ChanceOnEnd : Type 0
ChanceOnEnd = (pay : PlainPay) → IsValidInsurance pay → pay.causes ≡ None
    → (rank : ℕ → ℕ) (T n : ℕ) → 0 < n → pay.defer ≤ n - 1 → T ≤ n - 1
    → OfMarked pay.mark pay.body (λ s. IsTrue (names_term n s))
    → (S : ℕ → Bool) (lives : List PlainLife) → AreLives lives
    → expected T S lives (λ o. indicator (falls_on pay rank T o (ends n)))
    ≡ int_sum_over (sets (length lives))
    (λ s. coefficient (ending pay n) s *ℤ all_there (λ i. n) T S lives s)

-- on the end of a term that the marked member does not name: none
abbrev pub NoChanceOnOtherEnd : Type 0
NoChanceOnOtherEnd = (pay : PlainPay) (rank : ℕ → ℕ) (T n : ℕ)
    → IsMarkedAnd pay.mark pay.body (λ s. names_term n s ≡ false)
    → (S : ℕ → Bool) (lives : List PlainLife)
    → expected T S lives (λ o. indicator (falls_on pay rank T o (ends n))) ≡ pos 0

-- on a leaving that cannot come or that the pay does not allow: of a life that is not alive at T,
-- in a year before T, before the deferral or past the life's table
abbrev pub NoChanceOnLeavingOutside : Type 0
NoChanceOnLeavingOutside =
    (pay : PlainPay) (rank : ℕ → ℕ) (T a k : ℕ) (S : ℕ → Bool) (lives : List PlainLife)
    → (IsTrue (S a) → T ≤ k → pay.defer ≤ k → HasYear a k lives → ⊥)
    → expected T S lives (λ o. indicator (paid_on_leaving pay rank T a k o)) ≡ pos 0

-- on the end of a term that the pay does not allow: by a set of causes, before the deferral or
-- before T
abbrev pub NoChanceOnEndOutside : Type 0
NoChanceOnEndOutside =
    (pay : PlainPay) (rank : ℕ → ℕ) (T n : ℕ) (S : ℕ → Bool) (lives : List PlainLife)
    → (pay.causes ≡ None → pay.defer ≤ n - 1 → T ≤ n - 1 → ⊥)
    → expected T S lives (λ o. indicator (falls_on pay rank T o (ends n))) ≡ pos 0
