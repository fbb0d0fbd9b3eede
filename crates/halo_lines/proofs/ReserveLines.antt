-- The line of a reserve, with a premium and without one.
use Rattle.std.proofs.Common.{◌≡◌, ℕ, ◌*◌, ◌≤◌, Bool, List, Option, Some, None, arith, pos}
use Rattle.std.specs.Prelude.{IfNone, IfSome, neg_ℤ}
use Rattle.std.proofs.lemmas.Int.{ints}
use Rattle.halo_num.specs.Derived.{IsLessProduct}
use Rattle.halo_num.specs.Ends.{Ends, IsWithin}
use Rattle.halo_num.specs.declared.limits.TheConstants.{GREATEST_END}
use Rattle.halo_num.specs.declared.nano.Nano.{Nano}
use Rattle.halo_status.specs.Pay.{PlainPay}
use Rattle.halo_status.specs.Tree.{Tree}
use Rattle.halo_model.specs.Basis.{Basis}
use Rattle.halo_model.specs.Enclosed.{EnclosesBenefits, EnclosesOne, EnclosesPremium}
use Rattle.halo_model.specs.Horizon.{horizon}
use Rattle.halo_model.specs.Line.{IsPrinted, IsReserveLine}
use Rattle.halo_contract.specs.Premium.{premium_pay}
use Rattle.halo_model.proofs.Benefits.{reserve-with-premium, reserve-without-premium}
use Rattle.halo_model.proofs.Printing.{reserve-has-line}

pub with-premium : (premium : Option Ends) (later due reserve : Ends) (ends : Nano)
    → IfSome premium (λ p. IsLessProduct later p due reserve) → IsPrinted reserve ends
    → IfSome premium (λ p. (b : Basis) (pays : List PlainPay) (status : Tree) (T : ℕ) (S : ℕ → Bool)
    → horizon b.lives status ≤ b.last_time → EnclosesBenefits b pays T S later → EnclosesPremium b pays status p
    → EnclosesOne b (premium_pay status) T S due → IsReserveLine b pays (Some status) T S ends)
with-premium None later due reserve ends less printed = tt
with-premium (Some p) later due reserve ends less printed = λ b pays status T S in_time benefits premium one.
    reserve-has-line b pays (Some status) T S reserve ends
    (reserve-with-premium b pays status T S later p due reserve in_time benefits premium one less) printed

pub without-premium : (premium : Option Ends) (later reserve : Ends) (ends : Nano)
    → IfNone premium (reserve ≡ later) → IsPrinted reserve ends
    → IfNone premium ((b : Basis) (pays : List PlainPay) (T : ℕ) (S : ℕ → Bool)
    → EnclosesBenefits b pays T S later → IsReserveLine b pays None T S ends)
without-premium None later reserve ends same printed = λ b pays T S benefits.
    reserve-has-line b pays None T S later ends (reserve-without-premium b pays T S later benefits) (rw same at printed)
without-premium (Some p) later reserve ends same printed = tt

-- a reserve is at most twice as large as what is added
pub reserve-within : (premium : Option Ends) (later reserve : Ends)
    → IsWithin later (neg_ℤ (pos GREATEST_END)) (pos GREATEST_END) → IfNone premium (reserve ≡ later)
    → IfSome premium (λ p. IsWithin reserve (neg_ℤ (pos (2 * GREATEST_END))) (pos (2 * GREATEST_END)))
    → IsWithin reserve (neg_ℤ (pos (2 * GREATEST_END))) (pos (2 * GREATEST_END))
reserve-within None later reserve within same all =
    rw same (record { low = omega (arith, ints, within.low); high = omega (arith, ints, within.high) })
reserve-within (Some p) later reserve within same all = all
