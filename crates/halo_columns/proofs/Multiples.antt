-- A discount times a count.
use Rattle.std.proofs.Common.{◌≡◌, ℕ, ◌≤◌, ◌∙◌, pos, ◌*ℤ◌, ◌≤ℤ◌, arith}
use Rattle.std.proofs.lemmas.Int.{ints}
use Rattle.std.specs.Int.{int_min, int_max}
use Rattle.halo_num.specs.Ends.{Ends, IsWithin, fine}
use Rattle.halo_num.proofs.CountMultiples.{greatest-multiple, least-multiple, multiple-from}
use Rattle.halo_sums.proofs.Integers.{mul_le_pos}
use Rattle.halo_columns.specs.declared.entry.TheConstants.{GREATEST_COUNT, GREATEST_DISCOUNTED}

-- a multiple of what lies from 0 to 1 by a count lies from 0 to the greatest discounted count
pub times-within : (i r : Ends) (count : ℕ) → count ≤ GREATEST_COUNT → i.lo ≤ℤ i.hi → IsWithin i (pos 0) (pos fine)
    → r.lo ≡ int_min (i.lo *ℤ pos count) (i.hi *ℤ pos count) → r.hi ≡ int_max (i.lo *ℤ pos count) (i.hi *ℤ pos count)
    → IsWithin r (pos 0) (pos GREATEST_DISCOUNTED)
times-within i r count small order within lo hi =
    let most : (i.hi *ℤ pos count) ≤ℤ (pos fine *ℤ pos count) = mul_le_pos i.hi (pos fine) count within.high in
    record {
      low = rw (lo ∙ least-multiple i.lo i.hi count order) (multiple-from i.lo count within.low);
      high = rw (hi ∙ greatest-multiple i.lo i.hi count order) (omega (arith, ints, most));
    }
