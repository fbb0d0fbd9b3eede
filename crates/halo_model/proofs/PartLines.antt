-- A part of a pay is worth its amount times what it is worth with amount 1, and has its line.
use Rattle.std.proofs.Common.{◌≡◌, ℕ, suc, ◌*◌, ◌-◌, arith, ap, sym, subst, ◌∙◌, List, length, Bool, true, false, cond, ℤ, pos, ◌*ℤ◌}
use Rattle.halo_sums.specs.Sums.{int_sum_over, numbers_from, sum_over}
use Rattle.halo_sums.proofs.Integers.{mul_assoc, mul_comm, pos_mul}
use Rattle.halo_sums.proofs.IntSums.{int_sum_over-ext, int_sum_over-scale}
use Rattle.halo_num.specs.Ends.{HasWidth}
use Rattle.halo_status.specs.Pay.{PlainPay}
use Rattle.halo_model.specs.Backward.{may_pay, years_passed}
use Rattle.halo_model.specs.Basis.{Basis, discounted, taken}
use Rattle.halo_model.specs.Coefficient.{form}
use Rattle.halo_model.specs.Enclosed.{of_one}
use Rattle.halo_model.specs.PayPart.{PartHasLine, PayPart, by_set, on_life, on_term, part_numerator}
use Rattle.halo_model.specs.Payment.{factor}
use Rattle.halo_model.specs.RunPart.{paid_to_set, run_part, times_of}
use Rattle.halo_model.specs.Segment.{Run}
use Rattle.halo_model.specs.Counts.{measures_of, width_count}
use Rattle.halo_model.specs.Widths.{pay_width, printed_pay_width}
use Rattle.halo_model.proofs.Amounts.{times-sum}
use Rattle.halo_model.proofs.Printing.{line}

-- a sum of multiples
multiple-sum : {X : Type 0} (xs : List X) (amount : ℕ) (f g : X → ℤ) → ((x : X) → f x ≡ g x *ℤ pos amount)
    → int_sum_over xs f ≡ int_sum_over xs g *ℤ pos amount
multiple-sum xs amount f g each =
    int_sum_over-ext xs f (λ x. pos amount *ℤ g x) (λ x. each x ∙ mul_comm (g x) (pos amount))
    ∙ int_sum_over-scale xs (pos amount) g ∙ mul_comm (pos amount) (int_sum_over xs g)

-- a multiple of a number, and of a number in a product
pos-multiple : (amount share : ℕ) (z : ℤ) → pos (amount * share) *ℤ z ≡ pos share *ℤ z *ℤ pos amount
pos-multiple amount share z =
    ap (λ p. p *ℤ z) (pos_mul amount share) ∙ mul_assoc (pos amount) (pos share) z
    ∙ mul_comm (pos amount) (pos share *ℤ z)

module _ (b : Basis) (pay : PlainPay) where
  paid-times : (may : Bool) (share rest : ℕ)
      → cond may (pay.amount * share) 0 * rest ≡ pay.amount * (cond may (1 * share) 0 * rest)
  paid-times true share rest = omega arith
  paid-times false share rest = omega arith

  run-times : (run : Run) (s : List Bool) → run_part b pay run s ≡ run_part b (of_one pay) run s *ℤ pos pay.amount
  unfolding run_part form
  run-times run s =
      let paid : ℕ = sum_over (times_of run) (paid_to_set b (of_one pay) s) in
      let all : sum_over (times_of run) (paid_to_set b pay s) ≡ pay.amount * paid =
      times-sum (times_of run) pay.amount _ _ (λ t. paid-times (may_pay pay.kind pay.defer 0 t)
      (factor pay.vary (years_passed pay.kind pay.defer t)) _) in
      let c : ℤ = form pay run.first s in
      ap (λ n. pos (length (taken b)) *ℤ (c *ℤ pos n)) all
      ∙ ap (λ z. pos (length (taken b)) *ℤ (c *ℤ z)) (pos_mul pay.amount paid ∙ mul_comm (pos pay.amount) (pos paid))
      ∙ ap (λ z. pos (length (taken b)) *ℤ z) (sym (mul_assoc c (pos paid) (pos pay.amount)))
      ∙ sym (mul_assoc (pos (length (taken b))) (c *ℤ pos paid) (pos pay.amount))

  -- what is paid for a year, with a chance
  year-times : (k worth : ℕ) (z : ℤ)
      → pos (pay.amount * factor pay.vary k * worth) *ℤ z
      ≡ pos (1 * factor pay.vary k * worth) *ℤ z *ℤ pos pay.amount
  year-times k worth z =
      let n : ℕ = 1 * factor pay.vary k * worth in
      let whole : pay.amount * factor pay.vary k * worth ≡ pay.amount * n = omega arith in
      ap (λ m. pos m *ℤ z) whole ∙ pos-multiple pay.amount n z

  pub part-times : (part : PayPart) → part_numerator b pay part ≡ part_numerator b (of_one pay) part *ℤ pos pay.amount
  part-times (by_set run s) = run-times run s
  part-times (on_life a) = multiple-sum (taken b) pay.amount _ _ (λ order.
      multiple-sum (numbers_from 0 b.last_time) pay.amount _ _ (λ k.
      year-times (k - pay.defer) (discounted b 0 (suc k)) _))
  part-times (on_term n) = multiple-sum (taken b) pay.amount _ _ (λ order.
      year-times (n - 1 - pay.defer) (discounted b 0 (suc (n - 1))) _)

pub part-has-line : PartHasLine
unfolding printed_pay_width
part-has-line b pay part i multiple ends is times printed =
    let width : width_count (measures_of b pay) * pay.amount ≡ pay_width b pay = omega arith in
    line multiple ends _ _ _ (rw (part-times b pay part) (times.encloses _ _ is.encloses))
    (subst (λ (w : ℕ). HasWidth multiple w) width (times.narrow (width_count (measures_of b pay)) is.narrow)) printed
