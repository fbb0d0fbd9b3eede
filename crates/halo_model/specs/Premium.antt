-- Net premiums and prospective reserves, as fractions.
use Rattle.std.specs.Prelude.{ℕ, ◌*◌, Bool, List, Option, Some, None, ℤ, pos, ◌-ℤ◌}
use Rattle.halo_status.specs.Tree.{Tree}
use Rattle.halo_status.specs.Pay.{PlainPay}
use Rattle.halo_contract.specs.Premium.{all_lives, premium_pay}
use Rattle.halo_model.specs.Basis.{Basis}
use Rattle.halo_model.specs.Value.{denominator, numerator, total_numerator}

-- the net premium of some pays is premium_numerator / premium_denominator: their value over that of
-- a premium of 1, at the start
-- P = A / ä
unfoldable pub premium_numerator : Basis → List PlainPay → ℕ
premium_numerator b pays = total_numerator b pays 0 all_lives

unfoldable pub premium_denominator : Basis → Tree → ℕ
premium_denominator b status = numerator b (premium_pay status) 0 all_lives

-- the reserve at T with the lives of S alive is reserve_numerator / reserve_denominator: the value
-- of the pays still to come, less that of the net premiums still to come, if there are premiums
-- ₜV = A_(x+t) - P · ä_(x+t)
unfoldable pub reserve_numerator : Basis → List PlainPay → Option Tree → ℕ → (ℕ → Bool) → ℤ
reserve_numerator b pays None T S = pos (total_numerator b pays T S)
reserve_numerator b pays (Some status) T S =
    pos (total_numerator b pays T S * premium_denominator b status)
    -ℤ pos (premium_numerator b pays * numerator b (premium_pay status) T S)

unfoldable pub reserve_denominator : Basis → Option Tree → ℕ → (ℕ → Bool) → ℕ
reserve_denominator b None T S = denominator b T S
reserve_denominator b (Some status) T S = denominator b T S * premium_denominator b status
