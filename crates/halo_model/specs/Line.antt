-- The lines of a value report: printed ends that enclose a value, no wider than its count allows.
use Rattle.std.specs.Prelude.{ℕ, ◌+◌, Bool, List, [], ◌∷◌, Option, Some, None, ℤ, pos, ◌+ℤ◌, ◌≤ℤ◌}
use Rattle.halo_num.specs.Ends.{Ends, HasWidth, printed_ceiling}
use Rattle.halo_num.specs.Enclosure.{Encloses, EnclosesPrinted}
use Rattle.halo_num.specs.declared.nano.Nano.{Nano}
use Rattle.halo_status.specs.Tree.{Tree}
use Rattle.halo_status.specs.Pay.{PlainPay}
use Rattle.halo_model.specs.Basis.{Basis}
use Rattle.halo_model.specs.Enclosed.{EnclosesBenefits, EnclosesPremium, EnclosesReserve}
use Rattle.halo_model.specs.Premium.{premium_denominator, premium_numerator, reserve_denominator, reserve_numerator}
use Rattle.halo_contract.specs.Premium.{all_lives}
use Rattle.halo_model.specs.Value.{denominator, numerator, total_numerator}
use Rattle.halo_model.specs.Widths.{printed_pay_width, printed_premium_width, printed_reserve_width, printed_total_width}

-- the ends enclose the fraction num / den, and lie at most w apart
pub record IsLine (ends : Nano) (num : ℤ) (den w : ℕ) : Type 0 where
  pub encloses : EnclosesPrinted ends.lo ends.hi num den
  pub narrow : ends.hi ≤ℤ (ends.lo +ℤ pos w)

-- the line of a pay, of all pays together, and of the premium
abbrev pub IsPayLine : Basis → PlainPay → Nano → Type 0
IsPayLine b pay ends = IsLine ends
    (pos (numerator b pay 0 all_lives)) (denominator b 0 all_lives) (printed_pay_width b pay)

abbrev pub IsTotalLine : Basis → List PlainPay → Nano → Type 0
IsTotalLine b pays ends = IsLine ends (pos (total_numerator b pays 0 all_lives))
    (denominator b 0 all_lives) (printed_total_width b pays)

abbrev pub IsPremiumLine : Basis → List PlainPay → Tree → Nano → Type 0
IsPremiumLine b pays status ends = IsLine ends (pos (premium_numerator b pays))
    (premium_denominator b status) (printed_premium_width b pays status)

-- the line of a reserve at T with the lives of S alive, with and without a premium
abbrev pub printed_width_of_reserve : Basis → List PlainPay → Option Tree → ℕ
printed_width_of_reserve b pays None = printed_total_width b pays
printed_width_of_reserve b pays (Some status) = printed_reserve_width b pays status

abbrev pub IsReserveLine : Basis → List PlainPay → Option Tree → ℕ → (ℕ → Bool) → Nano → Type 0
IsReserveLine b pays premium T S ends =
    IsLine ends (reserve_numerator b pays premium T S)
    (reserve_denominator b premium T S) (printed_width_of_reserve b pays premium)

-- the ends are those of an interval, printed outward
pub record IsPrinted (i : Ends) (ends : Nano) : Type 0 where
  pub encloses : (n : ℤ) (d : ℕ) → Encloses i n d → EnclosesPrinted ends.lo ends.hi n d
  pub narrow : (w : ℕ) → HasWidth i w → ends.hi ≤ℤ (ends.lo +ℤ pos (printed_ceiling w + 1))

-- what is enclosed has its line, once it is printed: a pay by itself, all pays, the premium, and a
-- reserve
abbrev pub PayHasLine : Type 0
PayHasLine = (b : Basis) (pay : PlainPay) (i : Ends) (ends : Nano)
    → EnclosesBenefits b (pay ∷ []) 0 all_lives i → IsPrinted i ends → IsPayLine b pay ends

abbrev pub TotalHasLine : Type 0
TotalHasLine = (b : Basis) (pays : List PlainPay) (i : Ends) (ends : Nano)
    → EnclosesBenefits b pays 0 all_lives i → IsPrinted i ends → IsTotalLine b pays ends

abbrev pub PremiumHasLine : Type 0
PremiumHasLine = (b : Basis) (pays : List PlainPay) (status : Tree) (i : Ends) (ends : Nano)
    → EnclosesPremium b pays status i → IsPrinted i ends → IsPremiumLine b pays status ends

abbrev pub ReserveHasLine : Type 0
ReserveHasLine = (b : Basis)
    (pays : List PlainPay) (premium : Option Tree) (T : ℕ) (S : ℕ → Bool) (i : Ends) (ends : Nano)
    → EnclosesReserve b pays premium T S i
    → IsPrinted i ends → IsReserveLine b pays premium T S ends
