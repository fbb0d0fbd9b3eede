-- The values of the pays of a contract, each with amount 1, and how great they may be.
use Rattle.std.specs.Prelude.{ℕ, ◌*◌, ◌≤◌, All, Bool, List, pos}
use Rattle.std.specs.List.{AllZip}
use Rattle.halo_sums.specs.Sums.{sum_over}
use Rattle.halo_num.specs.Ends.{Ends, IsWithin, fine}
use Rattle.halo_premium.specs.declared.TheConstants.{GREATEST_AMOUNT}
use Rattle.halo_status.specs.Pay.{PlainPay}
use Rattle.halo_model.specs.Basis.{Basis}
use Rattle.halo_model.specs.Enclosed.{EnclosesOne}
use Rattle.halo_model.specs.EnclosureLaws.{IsShortPay}
use Rattle.halo_lines.specs.declared.pays.TheConstants.{MOST_WORTH}

-- each value encloses what its pay is worth with amount 1 at T with the lives of S alive
abbrev pub AreValues : Basis → ℕ → (ℕ → Bool) → List PlainPay → List Ends → Type 0
AreValues b T S pays values = AllZip (λ pay value. EnclosesOne b pay T S value) pays values

-- a value is at most what a pay of amount 1 within the limits of contracts is worth
abbrev pub IsSmall : Ends → Type 0
IsSmall value = IsWithin value (pos 0) (pos (MOST_WORTH * fine))

-- all pays together have room in the sums of intervals
pub record HaveRoom (pays : List PlainPay) (values : List Ends) : Type 0 where
  pub amounts : sum_over pays (λ pay. pay.amount) ≤ GREATEST_AMOUNT
  pub small : All IsSmall values

-- so they have within the limits of contracts
abbrev pub ValuesHaveRoom : Type 0
ValuesHaveRoom = (b : Basis) (T : ℕ) (S : ℕ → Bool) (pays : List PlainPay) (values : List Ends)
    → All (IsShortPay b) pays → sum_over pays (λ pay. pay.amount) ≤ GREATEST_AMOUNT
    → AreValues b T S pays values → HaveRoom pays values
