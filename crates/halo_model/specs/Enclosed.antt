-- Intervals that enclose the values of a contract, each no wider than its count: of a pay of amount
-- 1, of some pays together, of a premium, and of a reserve.
use Rattle.std.specs.Prelude.{◌≡◌, ℕ, ◌*◌, Bool, List, Option, Some, None, pos}
use Rattle.halo_num.specs.Ends.{Ends, HasWidth, IsWithin, fine}
use Rattle.halo_num.specs.Enclosure.{Encloses}
use Rattle.halo_status.specs.Tree.{Tree}
use Rattle.halo_status.specs.Pay.{PlainPay}
use Rattle.halo_model.specs.Basis.{Basis}
use Rattle.halo_model.specs.Counts.{measures_of, most_worth, width_count}
use Rattle.halo_model.specs.Premium.{premium_denominator, premium_numerator, reserve_denominator, reserve_numerator}
use Rattle.halo_model.specs.Value.{denominator, numerator, total_numerator}
use Rattle.halo_model.specs.Widths.{benefit_most, benefit_width, premium_width, reserve_width}

-- the same pay with amount 1
abbrev pub of_one : PlainPay → PlainPay
of_one pay = record pay { amount = 1 }

-- a pay is worth its amount times what it is worth with amount 1
abbrev pub ValuesScale : Type 0
ValuesScale = (b : Basis) (pay : PlainPay) (T : ℕ) (S : ℕ → Bool)
    → numerator b pay T S ≡ pay.amount * numerator b (of_one pay) T S

-- i encloses what a pay of amount 1 is worth at T with the lives of S alive
pub record EnclosesOne (b : Basis) (pay : PlainPay) (T : ℕ) (S : ℕ → Bool) (i : Ends) : Type 0 where
  pub encloses : Encloses i (pos (numerator b (of_one pay) T S)) (denominator b T S)
  pub narrow : HasWidth i (width_count (measures_of b pay))
  pub within : IsWithin i (pos 0) (pos (most_worth pay.kind (measures_of b pay) * fine))

-- i encloses what some pays together, each with its amount, are worth
pub record EnclosesBenefits
    (b : Basis) (pays : List PlainPay) (T : ℕ) (S : ℕ → Bool) (i : Ends) : Type 0 where
  pub encloses : Encloses i (pos (total_numerator b pays T S)) (denominator b T S)
  pub narrow : HasWidth i (benefit_width b pays)
  pub within : IsWithin i (pos 0) (pos (benefit_most b pays * fine))

-- i encloses the premium of some pays while a status exists
pub record EnclosesPremium
    (b : Basis) (pays : List PlainPay) (status : Tree) (i : Ends) : Type 0 where
  pub encloses : Encloses i (pos (premium_numerator b pays)) (premium_denominator b status)
  pub narrow : HasWidth i (premium_width b pays status)
  pub within : IsWithin i (pos 0) (pos (benefit_most b pays * fine))

-- how wide a reserve may be, with and without a premium
abbrev pub reserve_width_of : Basis → List PlainPay → Option Tree → ℕ
reserve_width_of b pays None = benefit_width b pays
reserve_width_of b pays (Some status) = reserve_width b pays status

-- i encloses the reserve of some pays, less premiums if there are any, at T with the lives of S
-- alive
pub record EnclosesReserve (b : Basis)
    (pays : List PlainPay) (premium : Option Tree) (T : ℕ) (S : ℕ → Bool) (i : Ends) : Type 0 where
  pub encloses : Encloses i
      (reserve_numerator b pays premium T S) (reserve_denominator b premium T S)
  pub narrow : HasWidth i (reserve_width_of b pays premium)
