-- What is found to be due in a year is what the form of a set says.
use Rattle.std.proofs.Common.{◌≡◌, ℕ, suc, ◌*◌, ◌-◌, arith, refl, ap, ◌∙◌, Bool, true, false, cond, ◌&&◌, nat_le, List, ℤ, ◌-ℤ◌}
use Rattle.halo_status.specs.Pay.{PlainPay}
use Rattle.halo_model.specs.Coefficient.{form}
use Rattle.halo_model.specs.Payment.{factor, payment}
use Rattle.halo_model.specs.SetValue.{SomeEvents}
use Rattle.halo_insure.specs.declared.due.Due.{Due}
use Rattle.halo_insure.specs.Dues.{coefficient_before, due_by, due_of, ends_count}

same-due : (a b : Due) → a.on_leaving ≡ b.on_leaving → a.at_end ≡ b.at_end → a ≡ b
same-due a b e f = ap (λ n. record { on_leaving = n; at_end = a.at_end }) e
    ∙ ap (λ n. record { on_leaving = b.on_leaving; at_end = n }) f

pub due-is : (part : ℤ → ℕ) (due : Due) (payment : ℕ) (ends : Bool) (here next h n : ℤ) → here ≡ h → next ≡ n
    → due.on_leaving ≡ payment * part here
    → due.at_end ≡ cond ends (payment * part (here -ℤ next)) 0 → due ≡ due_by part payment ends h n
due-is part due payment ends here next h n e f now end =
    same-due due (due_by part payment ends h n) (now ∙ ap (λ z. payment * part z) e)
    (end ∙ ap (λ z. cond ends (payment * part (z -ℤ next)) 0) e ∙ ap (λ z. cond ends (payment * part (h -ℤ z)) 0) f)

outward : (due : Bool) (p m : ℕ) → cond due p 0 * m ≡ cond due (p * m) 0
outward true p m = refl
outward false p m = omega arith

both : (due ends : Bool) (p m : ℕ) → cond ends (cond due p 0 * m) 0 ≡ cond (due && ends) (p * m) 0
both true true p m = refl
both true false p m = refl
both false true p m = omega arith
both false false p m = refl

-- with the coefficients and the payment of a set's year, it is what is due for the set
pub due-of-form : (part : ℤ → ℕ) (pay : PlainPay)
    → pay.amount ≡ 1 → (events : SomeEvents) (years : ℕ) (s : List Bool) (k paid : ℕ) (ends : Bool) (here next : ℤ)
    → paid ≡ cond (nat_le pay.defer k) (factor pay.vary (k - pay.defer)) 0
    → ends ≡ ends_count pay events (suc k) → here ≡ form pay k s → next ≡ coefficient_before pay years (suc k) s
    → due_by part paid ends here next ≡ due_of part pay events years s k
due-of-form part pay one events years s k paid ends here next pays end now later =
    let once : factor pay.vary (k - pay.defer) ≡ payment pay (k - pay.defer) = rw one (omega arith) in
    let paid_is : paid ≡ cond (nat_le pay.defer k) (payment pay (k - pay.defer)) 0 = pays
    ∙ ap (λ (p : ℕ). cond (nat_le pay.defer k) p 0) once in
    rw (paid_is, end, now, later)
    (same-due (due_by part (cond (nat_le pay.defer k) (payment pay (k - pay.defer)) 0) (ends_count pay events
    (suc k)) (form pay k s) (coefficient_before pay years (suc k) s)) (due_of part pay events years s k)
    (outward (nat_le pay.defer k) (payment pay (k - pay.defer)) (part (form pay k s)))
    (both (nat_le pay.defer k) (ends_count pay events (suc k))
    (payment pay (k - pay.defer)) (part (form pay k s -ℤ coefficient_before pay years (suc k) s))))
