-- There is room in the sums of intervals for one pay more.
use Rattle.std.proofs.Common.{◌≡◌, ℕ, Bool, ◌+◌, ◌*◌, ◌≤◌, List, [], ◌∷◌, arith, pos, ◌+ℤ◌, ◌*ℤ◌, ◌≤ℤ◌}
use Rattle.std.specs.Prelude.{All}
use Rattle.std.proofs.lemmas.Int.{ints}
use Rattle.std.proofs.lemmas.List.Elements.{All-cons, All-head, All-tail}
use Rattle.halo_sums.proofs.Integers.{mul_le_pos}
use Rattle.halo_num.specs.Ends.{Ends, IsWithin, fine}
use Rattle.halo_num.specs.declared.limits.TheConstants.{GREATEST_FACTOR}
use Rattle.halo_premium.specs.declared.TheConstants.{GREATEST_AMOUNT}
use Rattle.halo_status.specs.Pay.{PlainPay}
use Rattle.halo_model.specs.Basis.{Basis}
use Rattle.halo_model.specs.EnclosureLaws.{IsShortPay}
use Rattle.halo_model.proofs.Sizes.{one-bound}
use Rattle.halo_lines.specs.declared.pays.TheConstants.{MOST_WORTH}
use Rattle.halo_lines.specs.Values.{AreValues, IsSmall, ValuesHaveRoom}

-- a total of pays with these amounts together
abbrev pub IsTotalOf : ℕ → Ends → Type 0
IsTotalOf amount total = IsWithin total (pos 0) (pos (MOST_WORTH * amount * fine))

pub nothing-total : (total : Ends) → total.lo ≡ pos 0 → total.hi ≡ pos 0 → IsTotalOf 0 total
nothing-total total lo hi = record { low = omega (arith, ints, lo); high = omega (arith, ints, hi) }

-- a total fits the sums of intervals
pub total-fits : (amount : ℕ) (total : Ends) → IsTotalOf amount total → amount ≤ GREATEST_AMOUNT
    → IsWithin total (pos 0) (pos GREATEST_FACTOR)
total-fits amount total is few = record { low = is.low; high = omega (arith, ints, is.high, few) }

module _ (total value : Ends) (sum amount : ℕ) (is : IsTotalOf sum total) (small : IsSmall value) where
  -- what `add_pay` asks for
  pub record CanAdd : Type 0 where
    pub sum_in : IsWithin total (pos 0) (pos GREATEST_FACTOR)
    pub value_in : IsWithin value (pos 0) (pos GREATEST_FACTOR)
    pub result_in : (total.hi +ℤ value.hi *ℤ pos amount) ≤ℤ pos GREATEST_FACTOR

  pub can-add : sum + amount ≤ GREATEST_AMOUNT → CanAdd
  can-add few =
      let high : (value.hi *ℤ pos amount) ≤ℤ (pos (MOST_WORTH * fine) *ℤ pos amount)
      = mul_le_pos value.hi (pos (MOST_WORTH * fine)) amount small.high in
      record {
        sum_in = total-fits sum total is (omega arith);
        value_in = record { low = small.low; high = omega (arith, ints, small.high) };
        result_in = omega (arith, ints, high, is.high, few);
      }

  pub total-more : (more : Ends) → more.lo ≡ total.lo +ℤ value.lo *ℤ pos amount
      → more.hi ≡ total.hi +ℤ value.hi *ℤ pos amount → IsTotalOf (sum + amount) more
  total-more more lo hi =
      let low : (pos 0 *ℤ pos amount) ≤ℤ (value.lo *ℤ pos amount) = mul_le_pos (pos 0) value.lo amount small.low in
      let high : (value.hi *ℤ pos amount) ≤ℤ (pos (MOST_WORTH * fine) *ℤ pos amount)
      = mul_le_pos value.hi (pos (MOST_WORTH * fine)) amount small.high in
      record { low = rw lo (omega (arith, ints, low, is.low)); high = rw hi (omega (arith, ints, high, is.high)) }

-- the values of pays within the limits of contracts are small
values-small : (b : Basis) (T : ℕ) (S : ℕ → Bool) (pays : List PlainPay) (values : List Ends)
    → All (IsShortPay b) pays → AreValues b T S pays values → All IsSmall values
values-small b T S [] [] short are = λ k d within. absurd (omega arith)
values-small b T S (pay ∷ pays) (value ∷ values) short are =
    let most = one-bound b pay (All-head (IsShortPay b) pay pays short) in
    let first : IsSmall value =
    record { low = are.0.within.low; high = omega (arith, ints, are.0.within.high, most) } in
    All-cons IsSmall value values first (values-small b T S pays values (All-tail (IsShortPay b) pay pays short) are.1)
values-small b T S [] (value ∷ values) short are = absurd are
values-small b T S (pay ∷ pays) [] short are = absurd are

pub values-have-room : ValuesHaveRoom
values-have-room b T S pays values short few are =
    record { amounts = few; small = values-small b T S pays values short are }
