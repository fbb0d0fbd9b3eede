-- The values of all pays of a contract, of what a premium of 1 pays, and the premium.
use Rattle.std.specs.Prelude.{◌≡◌, ℕ, ⊤, ◌<◌, ◌≤◌, All, List, length, map, pos, ◌≤ℤ◌}
use Rattle.std.specs.Prelude.{Option, None, Some}
use Rattle.std.specs.List.{AllZip}
use Rattle.halo_sums.specs.Sums.{sum_over}
use Rattle.halo_num.specs.Ends.{Ends, IsWithin, fine}
use Rattle.halo_num.specs.declared.limits.TheConstants.{GREATEST_DIVISOR, GREATEST_FACTOR}
use Rattle.halo_status.specs.Pay.{PlainPay}
use Rattle.halo_status.specs.Tree.{Tree}
use Rattle.halo_contract.specs.Premium.{premium_pay}
use Rattle.halo_contract.specs.declared.contract.ReserveLine.{ReserveLine}
use Rattle.halo_model.specs.Basis.{Basis}
use Rattle.halo_model.specs.Enclosed.{EnclosesPremium}
use Rattle.halo_model.specs.Horizon.{horizon}
use Rattle.halo_model.specs.Line.{IsPremiumLine, IsTotalLine}
use Rattle.halo_life.specs.Lists.{entry}
use Rattle.halo_premium.specs.declared.TheConstants.{GREATEST_AMOUNT}
use Rattle.halo_lines.specs.PayLines.{ArePayLines}
use Rattle.halo_lines.specs.Report.{AreReserveLines, IsPremiumLineOf, PlainReport}
use Rattle.halo_lines.specs.Values.{HaveRoom}
use Rattle.halo_value.specs.PayValues.{AreLaterValues, ArePremiumValues, AreValuesOf}
use Rattle.halo_value.specs.declared.pass.PayValues.{PayValues}
use Rattle.halo_value.specs.declared.lines.Premium.{Premium}

-- the values of all pays at the start, and at the reserve of a place
abbrev pub starts_of : List PayValues → List Ends
starts_of values = map (λ pay. pay.start) values

abbrev pub values_at : List PayValues → ℕ → List Ends
values_at values place = map (λ pay. entry pay.later.items place) values

-- the values of the pays of a contract, and of what a premium of 1 pays if a premium is asked for
pub record AreContractValues (b : Basis) (pays : List PlainPay) (premium : Option PlainPay)
    (reserves : List ReserveLine) (values : List PayValues) (due : Option PayValues) : Type 0 where
  pub last : b.last_time ≡ 200
  pub amounts : sum_over pays (λ pay. pay.amount) ≤ GREATEST_AMOUNT
  pub of_pays : AllZip (AreValuesOf b reserves) pays values
  pub of_premium : ArePremiumValues b reserves premium due

-- all pays together can be told at the reserve of a place
pub record CanBeAddedAt (pays : List PlainPay) (values : List PayValues) (place : ℕ) : Type 0 where
  pub read : All (λ pay. place < length pay.later.items) values
  pub room : HaveRoom pays (values_at values place)

-- a value by which benefits can be divided
pub record CanDivide (due : PayValues) : Type 0 where
  pub from : pos fine ≤ℤ due.start.lo
  pub to : due.start.hi ≤ℤ pos GREATEST_DIVISOR

-- the value at the reserve of a place can be multiplied by a premium
pub record CanMultiplyAt (place : ℕ) (due : List Ends) : Type 0 where
  pub read : place < length due
  pub within : IsWithin (entry due place) (pos 0) (pos GREATEST_DIVISOR)

-- a premium that can be taken off at the reserve of a place
pub record CanBeTakenOffAt (place : ℕ) (premium : Premium) : Type 0 where
  pub within : IsWithin premium.line.premium (pos 0) (pos GREATEST_FACTOR)
  pub due : CanMultiplyAt place premium.due.items

-- the premium of some pays on a status, and what a premium of 1 is worth at each reserve
pub record IsPremiumOf (b : Basis) (pays : List PlainPay) (status : Tree)
    (reserves : List ReserveLine) (premium : Premium) : Type 0 where
  pub in_time : horizon b.lives status ≤ b.last_time
  pub encloses : EnclosesPremium b pays status premium.line.premium
  pub line : IsPremiumLine b pays status premium.line.line
  pub later : AreLaterValues b (premium_pay status) reserves premium.due.items

-- there is a premium exactly where one is asked for
abbrev pub HasPremium :
    Basis → List PlainPay → Option Tree → List ReserveLine → Option Premium → Type 0
HasPremium b pays None reserves None = ⊤
HasPremium b pays (Some status) reserves (Some premium) =
    IsPremiumOf b pays status reserves premium
HasPremium b pays _ reserves _ = ⊥

-- the lines of a report enclose what they are of some benefits, of a premium on a status if one is
-- asked for, and of some reserves, on any basis
pub record EnclosesReport (b : Basis) (benefits : List PlainPay) (status : Option Tree)
    (asked : List ReserveLine) (report : PlainReport) : Type 0 where
  pub pays : ArePayLines b benefits report.pays
  pub total : IsTotalLine b benefits report.total
  pub premium : IsPremiumLineOf b benefits status report.premium
  pub reserves : AreReserveLines b benefits status asked report.reserves
