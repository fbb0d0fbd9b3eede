-- The value of an annuity is what it pays in the years from the valuation to its horizon.
use Rattle.std.proofs.Common.{◌≡◌, ◌≢◌, ℕ, suc, ◌+◌, ◌*◌, ◌-◌, ◌<◌, ◌≤◌, arith, refl, ap, sym, ◌∙◌, length, Bool, true, false, cond, None, ℤ, pos, ◌*ℤ◌}
use Rattle.std.proofs.Math.IntN.{*ℤ-zero}
use Rattle.std.proofs.lemmas.Bool.Decides.{nat_tests}
use Rattle.std.proofs.lemmas.Int.{ints}
use Rattle.halo_sums.specs.Sums.{int_sum_over, numbers_from}
use Rattle.halo_sums.specs.Sets.{sets}
use Rattle.halo_sums.proofs.Integers.{mul_assoc, mul_comm, pos_mul}
use Rattle.halo_sums.proofs.IntSums.{int_sum_over-append, int_sum_over-ext, int_sum_over-none}
use Rattle.halo_sums.proofs.Numbers.{int_sum_over-numbers_ext, numbers_from-add}
use Rattle.halo_status.specs.Nodes.{HasPositiveRanks, HasShortLists}
use Rattle.halo_status.specs.Pay.{PlainPay}
use Rattle.halo_status.specs.declared.pay.Kind.{Kind}
use Rattle.halo_status.specs.declared.pay.Kind.TheVariants.{Insurance, Due, Immediate}
use Rattle.halo_model.specs.Life.{AreLives}
use Rattle.halo_model.specs.Basis.{Basis, discounted, taken}
use Rattle.halo_model.specs.Payment.{payment}
use Rattle.halo_model.specs.Coefficient.{form}
use Rattle.halo_model.specs.Horizon.{horizon}
use Rattle.halo_model.specs.Part.{existing_weight}
use Rattle.halo_model.specs.Segment.{first_time, last_time_of_form}
use Rattle.halo_model.specs.Value.{numerator}
use Rattle.halo_model.specs.Backward.{lies_in, may_pay, paid_at, years_passed}
use Rattle.halo_model.proofs.AfterHorizon.{nothing-after-horizon}
use Rattle.halo_model.proofs.Backward.{all-there, annuity-by-times, sets-ext, time_part}
use Rattle.halo_model.proofs.HorizonIsLeast.{horizon-is-least}
use Rattle.halo_along.specs.Years.{present_value, present_value_of_years}

-- a sum over numbers of which only those in the middle add something
pub middle : (f : ℕ → ℤ) (first count more : ℕ) → ((t : ℕ) → t < first → f t ≡ pos 0)
    → ((t : ℕ) → first + count ≤ t → f t ≡ pos 0)
    → int_sum_over (numbers_from 0 (first + (count + more))) f ≡ int_sum_over (numbers_from first count) f
middle f first count more before after =
    let start : 0 + first ≡ first = omega arith in
    ap (λ ts. int_sum_over ts f) (numbers_from-add first (count + more) 0)
    ∙ int_sum_over-append (numbers_from 0 first) (numbers_from (0 + first) (count + more)) f
    ∙ rw (start, none first 0 (λ t from below. before t (omega arith)))
    (omega (
      arith,
      ints,
      ap (λ ts. int_sum_over ts f) (numbers_from-add count more first),
      int_sum_over-append (numbers_from first count) (numbers_from (first + count) more) f,
      none more (first + count) (λ t from below. after t from),
    ))
  where
    none : (n first : ℕ) → ((t : ℕ) → first ≤ t → t < first + n → f t ≡ pos 0)
        → int_sum_over (numbers_from first n) f ≡ pos 0
    none n first h = int_sum_over-numbers_ext n first f (λ t. pos 0) h ∙ int_sum_over-none (numbers_from first n)

-- an annuity does not pay before its first time of a valuation
not-yet : (kind : Kind) (defer T t : ℕ) → t < T + first_time kind → may_pay kind defer T t ≡ false
not-yet Insurance defer T t h = refl
not-yet Due defer T t h = grind (arith, nat_tests)
not-yet Immediate defer T t h = grind (arith, nat_tests)

first-few : (kind : Kind) → first_time kind ≤ 1
first-few Insurance = omega arith
first-few Due = omega arith
first-few Immediate = omega arith

-- a payment where it is allowed
pub where-allowed : (may : Bool) (p d : ℕ) (x : ℤ)
    → cond may (pos (p * d) *ℤ x) (pos 0) ≡ (pos d *ℤ x) *ℤ pos (cond may p 0)
where-allowed true p d x =
    ap (λ z. z *ℤ x) (pos_mul p d) ∙ mul_assoc (pos p) (pos d) x ∙ mul_comm (pos p) (pos d *ℤ x)
where-allowed false p d x = sym (*ℤ-zero (pos d *ℤ x))

module _ (b : Basis) (rule : AreLives b.lives) (pay : PlainPay) (plain : pay.mark ≡ None)
    (short : HasShortLists pay.body) (ranks : HasPositiveRanks pay.body) (T : ℕ) (S : ℕ → Bool) where
  -- the body does not exist after the last time of its form
  pub none-exists : (t : ℕ) → last_time_of_form pay.kind (horizon b.lives pay.body) < t
      → existing_weight b pay T S t ≡ pos 0
  none-exists t after =
      sets-ext (length b.lives) _ (λ s. pos 0) (λ s long.
      ap (λ z. form pay t s *ℤ z) (all-there t T S b.lives s long)
      ∙ no-weight (lies_in s S) (form pay t s) _ _ (nothing-after-horizon b rule pay plain short ranks t after s long))
      ∙ int_sum_over-none (sets (length b.lives))
    where
      none : (n : ℕ) → 0 * n ≡ 0
      none n = omega arith

      no-weight : (is : Bool) (c : ℤ) (j o : ℕ) → c *ℤ pos j ≡ pos 0 → c *ℤ cond is (pos (j * o)) (pos 0) ≡ pos 0
      no-weight false c j o e = *ℤ-zero c
      no-weight true c j o e = ap (λ z. c *ℤ z) (pos_mul j o)
          ∙ sym (mul_assoc c (pos j) (pos o)) ∙ ap (λ z. z *ℤ pos o) e ∙ ap pos (none o)

  not-before : (t : ℕ) → t < T + first_time pay.kind → present_value b pay T S t ≡ pos 0
  not-before t before =
      ap (λ may. (pos (discounted b T t) *ℤ existing_weight b pay T S t)
      *ℤ pos (cond may (payment pay (years_passed pay.kind pay.defer t)) 0)) (not-yet pay.kind pay.defer T t before)
      ∙ *ℤ-zero (pos (discounted b T t) *ℤ existing_weight b pay T S t)

  not-after : (t : ℕ) → last_time_of_form pay.kind (horizon b.lives pay.body) < t → present_value b pay T S t ≡ pos 0
  not-after t after =
      ap (λ z. (pos (discounted b T t) *ℤ z) *ℤ pos (paid_at pay T t)) (none-exists t after)
      ∙ ap (λ z. z *ℤ pos (paid_at pay T t)) (*ℤ-zero (pos (discounted b T t)))
      ∙ nothing (paid_at pay T t)
    where
      nothing : (n : ℕ) → pos 0 *ℤ pos n ≡ pos 0
      nothing n = omega (arith, ints)

  -- the value, over the years to the horizon
  pub value-by-years : pay.kind ≢ Insurance → T ≤ b.last_time → horizon b.lives pay.body ≤ b.last_time
      → pos (numerator b pay T S)
      ≡ pos (length (taken b)) *ℤ present_value_of_years b pay T S (horizon b.lives pay.body - T)
  value-by-years annual started ends =
      annuity-by-times b rule pay annual plain T S
      ∙ ap (λ z. pos (length (taken b)) *ℤ z)
      (int_sum_over-ext (numbers_from 0 (suc b.last_time)) (time_part b pay T S) (present_value b pay T S)
      (λ t. where-allowed (may_pay pay.kind pay.defer T t) (payment pay (years_passed pay.kind pay.defer t))
      (discounted b T t) (existing_weight b pay T S t))
      ∙ ap (λ n. int_sum_over (numbers_from 0 n) (present_value b pay T S)) times
      ∙ middle (present_value b pay T S) first years rest not-before
      (λ t after. not-after t (omega (arith, after, some))))
    where
      first : ℕ
      first = T + first_time pay.kind

      years : ℕ
      years = horizon b.lives pay.body - T

      rest : ℕ
      rest = suc b.last_time - (first + years)

      some : 1 ≤ horizon b.lives pay.body
      some = ((horizon-is-least b.lives pay.body (horizon b.lives pay.body)).0 (omega arith)).one

      times : suc b.last_time ≡ first + (years + rest)
      times = omega (arith, first-few pay.kind, some)
