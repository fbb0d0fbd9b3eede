-- From the intervals of the pays, each with amount 1, to those of the total, the premium and the
-- reserves.
use Rattle.std.specs.Prelude.{◌≡◌, ℕ, ◌*◌, ◌++◌, ◌^◌, ◌≤◌, All, Bool, List, [], ◌∷◌, Some, None, pos, ◌+ℤ◌, ◌*ℤ◌}
use Rattle.halo_num.specs.Derived.{IsLessProduct, IsQuotient}
use Rattle.halo_num.specs.Ends.{Ends, fine}
use Rattle.halo_sums.specs.Sums.{sum_over}
use Rattle.halo_status.specs.Tree.{Tree}
use Rattle.halo_status.specs.ValidPay.{HasValidVary}
use Rattle.halo_status.specs.declared.pay.Kind.TheVariants.{Due}
use Rattle.halo_status.specs.Pay.{PlainPay}
use Rattle.halo_model.specs.Basis.{Basis}
use Rattle.halo_model.specs.Counts.{measures_of, most_worth}
use Rattle.halo_model.specs.Enclosed.{EnclosesBenefits, EnclosesOne, EnclosesPremium, EnclosesReserve}
use Rattle.halo_model.specs.Horizon.{horizon}
use Rattle.halo_contract.specs.Premium.{all_lives, premium_pay}
use Rattle.halo_model.specs.Widths.{benefit_most}

-- no pays are worth nothing
abbrev pub NoBenefits : Type 0
NoBenefits = (b : Basis) (T : ℕ) (S : ℕ → Bool) (i : Ends)
    → i.lo ≡ pos 0 → i.hi ≡ pos 0 → EnclosesBenefits b [] T S i

-- one pay more adds its amount times what it is worth with amount 1
abbrev pub OneBenefitMore : Type 0
OneBenefitMore = (b : Basis)
    (pays : List PlainPay) (pay : PlainPay) (T : ℕ) (S : ℕ → Bool) (sum value more : Ends)
    → EnclosesBenefits b pays T S sum → EnclosesOne b pay T S value
    → more.lo ≡ sum.lo +ℤ value.lo *ℤ pos pay.amount
    → more.hi ≡ sum.hi +ℤ value.hi *ℤ pos pay.amount
    → EnclosesBenefits b (pays ++ pay ∷ []) T S more

-- the premium: the benefits at the start over the value of a premium of 1
abbrev pub PremiumOfBenefits : Type 0
PremiumOfBenefits = (b : Basis) (pays : List PlainPay) (status : Tree) (benefits due i : Ends)
    → EnclosesBenefits b pays 0 all_lives benefits
    → EnclosesOne b (premium_pay status) 0 all_lives due
    → IsQuotient benefits due i → EnclosesPremium b pays status i

-- the reserve with a premium: the pays still to come, less the premium times the value of a premium
-- of 1 still to come, whose status cannot outlast the last time
abbrev pub ReserveWithPremium : Type 0
ReserveWithPremium = (b : Basis)
    (pays : List PlainPay) (status : Tree) (T : ℕ) (S : ℕ → Bool) (later premium due i : Ends)
    → horizon b.lives status ≤ b.last_time
    → EnclosesBenefits b pays T S later
    → EnclosesPremium b pays status premium → EnclosesOne b (premium_pay status) T S due
    → IsLessProduct later premium due i → EnclosesReserve b pays (Some status) T S i

-- and without one
abbrev pub ReserveWithoutPremium : Type 0
ReserveWithoutPremium = (b : Basis) (pays : List PlainPay) (T : ℕ) (S : ℕ → Bool) (later : Ends)
    → EnclosesBenefits b pays T S later → EnclosesReserve b pays None T S later

-- a pay within the limits of contracts: it has changed all it can by time 200, and its decreasing
-- factor begins at most at 200
pub record IsShortPay (b : Basis) (pay : PlainPay) : Type 0 where
  pub years : horizon b.lives pay.body ≤ 200
  pub vary : HasValidVary pay.vary

-- all pays together have room in the sums of intervals, where their amounts come to at most 10^10
-- ..
abbrev pub BenefitsFit : Type 0
BenefitsFit = (b : Basis) (pays : List PlainPay)
    → All (IsShortPay b) pays → sum_over pays (λ pay. pay.amount) ≤ 10 ^ 10
    → benefit_most b pays * fine ≤ 10 ^ 33

-- .. and so has the value of a premium of 1 in the products and quotients
abbrev pub DueFits : Type 0
DueFits = (b : Basis) (status : Tree) → horizon b.lives status ≤ 200
    → most_worth Due (measures_of b (premium_pay status)) * fine ≤ 10 ^ 21
