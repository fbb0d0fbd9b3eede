-- What a pay is worth at the start and at each reserve.
use Rattle.std.specs.Prelude.{◌≡◌, ℕ, ⊤, ◌≤◌, List, Option, None, Some, pos, ◌≤ℤ◌}
use Rattle.std.specs.List.{AllZip}
use Rattle.halo_sums.specs.Masks.{has_bit}
use Rattle.halo_num.specs.Ends.{Ends, fine}
use Rattle.halo_status.specs.Pay.{PlainPay}
use Rattle.halo_contract.specs.Premium.{all_lives, premium_pay}
use Rattle.halo_contract.specs.ValidContract.{IsValidPremium}
use Rattle.halo_contract.specs.declared.contract.ReserveLine.{ReserveLine}
use Rattle.halo_model.specs.Basis.{Basis}
use Rattle.halo_model.specs.Enclosed.{EnclosesOne}
use Rattle.halo_model.specs.EnclosureLaws.{IsShortPay}
use Rattle.halo_model.specs.Horizon.{horizon}
use Rattle.halo_value.specs.declared.pass.PayValues.{PayValues}

-- each reserve has the value of a pay of amount 1 at its time, with the lives of its set alive
abbrev pub AreLaterValues : Basis → PlainPay → List ReserveLine → List Ends → Type 0
AreLaterValues b pay reserves values =
    AllZip (λ reserve value. EnclosesOne b pay reserve.time (has_bit reserve.alive) value)
    reserves values

-- the values of a pay within the limits of contracts: at the start, with all lives alive, and at
-- each reserve
pub record AreValuesOf
    (b : Basis) (reserves : List ReserveLine) (pay : PlainPay) (values : PayValues) : Type 0 where
  pub short : IsShortPay b pay
  pub start : EnclosesOne b pay 0 all_lives values.start
  pub later : AreLaterValues b pay reserves values.later.items

-- what a premium of 1 pays is worth at least 1 at the start
abbrev pub HasOne : ℕ → PlainPay → PayValues → Type 0
HasOne n pay values = (causes : ℕ) → IsValidPremium n causes pay → pos fine ≤ℤ values.start.lo

-- the values of what a premium of 1 pays, which is worth at least 1 at the start
pub record AreDueValues
    (b : Basis) (reserves : List ReserveLine) (pay : PlainPay) (values : PayValues) : Type 0 where
  pub level : pay ≡ premium_pay pay.body
  pub in_time : horizon b.lives pay.body ≤ b.last_time
  pub of_pay : AreValuesOf b reserves pay values
  pub one : pos fine ≤ℤ values.start.lo

-- there are such values exactly where a premium is asked for
abbrev pub ArePremiumValues :
    Basis → List ReserveLine → Option PlainPay → Option PayValues → Type 0
ArePremiumValues b reserves None None = ⊤
ArePremiumValues b reserves (Some pay) (Some values) = AreDueValues b reserves pay values
ArePremiumValues b reserves _ _ = ⊥
