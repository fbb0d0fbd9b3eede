-- An insurance that pays whenever its body fails pays, in the years from the valuation to its horizon, for the falls of
-- its existence; and a year's fall by the values of its existence at the two ends.
use Rattle.std.proofs.Common.{◌≡◌, ℕ, suc, ◌+◌, ◌*◌, ◌-◌, ◌<◌, ◌≤◌, arith, refl, ap, sym, ◌∙◌, length, Bool, true, false, cond, ◌&&◌, None, ℤ, pos, ◌-ℤ◌, ◌*ℤ◌}
use Rattle.std.specs.Prelude.{nat_le}
use Rattle.std.proofs.Math.IntN.{*ℤ-zero}
use Rattle.std.proofs.lemmas.Bool.Decides.{nat_tests}
use Rattle.halo_sums.specs.Sums.{int_sum_over, numbers_from, product_over}
use Rattle.halo_sums.proofs.Integers.{mul_assoc, mul_comm, mul_sub, pos_mul}
use Rattle.halo_sums.proofs.Numbers.{numbers_from-add}
use Rattle.halo_sums.proofs.Sums.{product_over-append}
use Rattle.halo_status.specs.Nodes.{HasPositiveRanks, HasShortLists, IsLasting}
use Rattle.halo_status.specs.Pay.{PlainPay}
use Rattle.halo_status.specs.declared.pay.Kind.TheVariants.{Insurance}
use Rattle.halo_model.specs.Life.{AreLives}
use Rattle.halo_model.specs.Basis.{Basis, accumulated, discounted, taken}
use Rattle.halo_model.specs.ByYears.{year_part}
use Rattle.halo_model.specs.Horizon.{horizon}
use Rattle.halo_model.specs.Part.{existing_weight, paid_for_year}
use Rattle.halo_model.specs.PartLaws.{EndBy}
use Rattle.halo_model.specs.Payment.{payment}
use Rattle.halo_model.specs.Value.{numerator}
use Rattle.halo_model.proofs.ByYears.{insurance-by-years}
use Rattle.halo_model.proofs.HorizonIsLeast.{horizon-is-least}
use Rattle.halo_along.specs.Insured.{insured_in, insured_value_of_years}
use Rattle.halo_along.specs.Years.{present_value_of_one}
use Rattle.halo_along.proofs.Value.{middle, none-exists}

-- the discount factors up to the end of a year are those up to its start and its own
pub discounted-by-year : (b : Basis) (T k : ℕ) → T ≤ k → suc k ≤ b.last_time
    → discounted b T k * b.q k ≡ discounted b T (suc k) * (b.p k + b.q k)
discounted-by-year b T k from before = rw (factors, interest) turned
  where
    years : suc k - T ≡ (k - T) + 1
    years = omega arith

    there : T + (k - T) ≡ k
    there = omega arith

    factors : product_over (numbers_from T (suc k - T)) b.q ≡ product_over (numbers_from T (k - T)) b.q * (b.q k * 1)
    factors = ap (λ (n : ℕ). product_over (numbers_from T n) b.q) years
        ∙ ap (λ ks. product_over ks b.q) (numbers_from-add (k - T) 1 T)
        ∙ product_over-append (numbers_from T (k - T)) (numbers_from (T + (k - T)) 1) b.q
        ∙ ap (λ (n : ℕ). product_over (numbers_from T (k - T)) b.q * (b.q n * 1)) there

    rest : b.last_time - k ≡ suc (b.last_time - suc k)
    rest = omega arith

    interest : accumulated b k ≡ (b.p k + b.q k) * accumulated b (suc k)
    interest = ap (λ (n : ℕ). product_over (numbers_from k n) (λ k. b.p k + b.q k)) rest

    turned : product_over (numbers_from T (k - T)) b.q * ((b.p k + b.q k) * accumulated b (suc k)) * b.q k
        ≡ product_over (numbers_from T (k - T)) b.q * (b.q k * 1) * accumulated b (suc k) * (b.p k + b.q k)
    turned = omega arith

module _ (b : Basis) (pay : PlainPay) (T : ℕ) (S : ℕ → Bool) where
  -- a year from the valuation on pays for the fall from one value of existence to the next, both paid at its end
  pub year-pays-fall : (k : ℕ) → T ≤ k
      → year_part b pay T S k
      ≡ (pos (discounted b T (suc k)) *ℤ existing_weight b pay T S k -ℤ present_value_of_one b pay T S (suc k))
      *ℤ pos (insured_in pay k)
  year-pays-fall k from =
      let started : nat_le T k ≡ true = grind (arith, nat_tests) in
      rw started (paid (nat_le pay.defer k) (payment pay (k - pay.defer)) (discounted b T (suc k))
      (existing_weight b pay T S k) (existing_weight b pay T S (suc k)))
    where
      paid : (may : Bool) (p d : ℕ) (x y : ℤ)
          → cond (may && true) (pos (p * d) *ℤ (x -ℤ y)) (pos 0)
          ≡ (pos d *ℤ x -ℤ pos d *ℤ y) *ℤ pos (cond may p 0)
      paid true p d x y =
          ap (λ z. z *ℤ (x -ℤ y)) (pos_mul p d) ∙ mul_assoc (pos p) (pos d) (x -ℤ y)
          ∙ ap (λ z. pos p *ℤ z) (mul_sub (pos d) x y) ∙ mul_comm (pos p) (pos d *ℤ x -ℤ pos d *ℤ y)
      paid false p d x y = sym (*ℤ-zero (pos d *ℤ x -ℤ pos d *ℤ y))

  -- the value of existence at the start of a year, discounted to its end
  pub value-at-end : (k : ℕ) → T ≤ k → suc k ≤ b.last_time
      → present_value_of_one b pay T S k *ℤ pos (b.q k)
      ≡ (pos (discounted b T (suc k)) *ℤ existing_weight b pay T S k) *ℤ pos (b.p k + b.q k)
  value-at-end k from before =
      swap (discounted b T k) (b.q k) (existing_weight b pay T S k)
      ∙ ap (λ n. pos n *ℤ existing_weight b pay T S k) (discounted-by-year b T k from before)
      ∙ sym (swap (discounted b T (suc k)) (b.p k + b.q k) (existing_weight b pay T S k))
    where
      swap : (d m : ℕ) (x : ℤ) → (pos d *ℤ x) *ℤ pos m ≡ pos (d * m) *ℤ x
      swap d m x =
          mul_assoc (pos d) x (pos m) ∙ ap (λ z. pos d *ℤ z) (mul_comm x (pos m)) ∙ sym (mul_assoc (pos d) (pos m) x)
          ∙ ap (λ z. z *ℤ x) (sym (pos_mul d m))

  not-before : (k : ℕ) → k < T → year_part b pay T S k ≡ pos 0
  not-before k before =
      let not-yet : nat_le T k ≡ false = grind (arith, nat_tests) in
      rw not-yet (never (nat_le pay.defer k) _)
    where
      never : (may : Bool) (z : ℤ) → cond (may && false) z (pos 0) ≡ pos 0
      never true z = refl
      never false z = refl

module _ (b : Basis) (rule : AreLives b.lives) (end : EndBy b.last_time b.lives) (pay : PlainPay)
    (kind : pay.kind ≡ Insurance) (plain : pay.mark ≡ None) (any_cause : pay.causes ≡ None)
    (lasting : IsLasting pay.body) (short : HasShortLists pay.body) (ranks : HasPositiveRanks pay.body)
    (T : ℕ) (S : ℕ → Bool) where
  not-after : (k : ℕ) → horizon b.lives pay.body ≤ k → year_part b pay T S k ≡ pos 0
  not-after k after =
      rw (gone k after, gone (suc k) (omega arith))
      (nothing (nat_le pay.defer k && nat_le T k) (paid_for_year b pay T k))
    where
      some : 1 ≤ horizon b.lives pay.body
      some = ((horizon-is-least b.lives pay.body (horizon b.lives pay.body)).0 (omega arith)).one

      gone : (t : ℕ) → horizon b.lives pay.body ≤ t → existing_weight b pay T S t ≡ pos 0
      gone t late = none-exists b rule pay plain short ranks T S t (rw kind (omega (arith, late, some)))

      nothing : (may : Bool) (n : ℕ) → cond may (pos n *ℤ (pos 0 -ℤ pos 0)) (pos 0) ≡ pos 0
      nothing true n = *ℤ-zero (pos n)
      nothing false n = refl

  -- the value, over the years to the horizon
  pub insurance-by-years-to-horizon : T ≤ b.last_time → horizon b.lives pay.body ≤ b.last_time
      → pos (numerator b pay T S)
      ≡ pos (length (taken b)) *ℤ insured_value_of_years b pay T S (horizon b.lives pay.body - T)
  insurance-by-years-to-horizon started ends =
      insurance-by-years b rule end pay kind plain any_cause lasting T S
      ∙ ap (λ z. pos (length (taken b)) *ℤ z)
      (ap (λ n. int_sum_over (numbers_from 0 n) (year_part b pay T S)) times
      ∙ middle (year_part b pay T S) T years rest (not-before b pay T S)
      (λ k after. not-after k (omega (arith, after))))
    where
      years : ℕ
      years = horizon b.lives pay.body - T

      rest : ℕ
      rest = b.last_time - (T + years)

      times : b.last_time ≡ T + (years + rest)
      times = omega arith
