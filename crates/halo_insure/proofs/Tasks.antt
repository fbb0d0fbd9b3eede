-- What a valid task of an insurance says of its lives and its pay.
use Rattle.std.proofs.Common.{◌≡◌, ℕ, suc, ◌^◌, ◌<◌, arith, refl, ap, ◌∙◌, List, length, Bool, true, false, cond, nat_lt, ℤ, pos}
use Rattle.halo_sums.specs.Masks.{bits}
use Rattle.std.proofs.lemmas.Bool.Decides.{nat_tests}
use Rattle.halo_insure.specs.Dues.{coefficient_before}
use Rattle.halo_status.specs.Pay.{pay_of}
use Rattle.halo_status.specs.declared.pay.Kind.TheVariants.{Insurance}
use Rattle.halo_model.specs.Coefficient.{form}
use Rattle.halo_poly.specs.Poly.{coefficient_at}
use Rattle.halo_model.specs.Life.{AreLives}
use Rattle.halo_life.specs.PlainGroup.{IsGroup}
use Rattle.halo_compile.specs.Form.{HasTime, IsPolyOf}
use Rattle.halo_compile.proofs.Coefficients.{coefficients-of-one}
use Rattle.halo_compile.proofs.Tasks.{count-lives, group-lives}
use Rattle.halo_compile.proofs.Times.{time-has-segment}
use Rattle.halo_compile.specs.declared.task.Task.{Task}
use Rattle.halo_compile.specs.ValidTask.{IsTask}
use Rattle.halo_compile.specs.OfTask.{pay_of_task}
use Rattle.halo_insure.specs.OfTask.{insured_basis}

module _ {n m : ℕ} (task : Task n m) (group : IsGroup n task.group.now) where
  pub lives-of-task : length (insured_basis task).lives ≡ n
  lives-of-task = count-lives task.group.now ∙ group.count

  pub are-lives : AreLives (insured_basis task).lives
  are-lives = group-lives n task.group.now group

-- an insurance has a form at each time before its horizon
pub has-form : {n m : ℕ} (task : Task n m) → IsTask task
    → task.pay.now.kind ≡ Insurance → (t : ℕ) → t < task.horizon → (place : ℕ) × HasTime task.form.now t place
has-form {n} {m} task is kind t before = time-has-segment (pay_of task.pay.now) n task.horizon t task.form.now is.form
    (rw kind (omega arith)) (rw kind (omega (arith, before)))

-- the coefficients of the next time, and none where the form does not go on
pub next-of-form : {n m : ℕ} (task : Task n m) (k time : ℕ) (goes : Bool) (p : List ℤ) → IsPolyOf
    (pay_of task.pay.now) n time p → goes ≡ nat_lt (suc k) task.horizon → (suc k < task.horizon → time ≡ suc k)
    → (mask : ℕ) → mask < 2 ^ n → cond goes (coefficient_at p mask) (pos 0)
    ≡ coefficient_before (pay_of_task task) task.horizon (suc k) (bits n mask)
next-of-form {n} {m} task k time goes p is going next mask below = rw going (each (nat_lt (suc k) task.horizon) refl)
  where
    each : (b : Bool) → nat_lt (suc k) task.horizon ≡ b
        → cond b (coefficient_at p mask) (pos 0) ≡ cond b (form (pay_of_task task) (suc k) (bits n mask)) (pos 0)
    each true e = let t : time ≡ suc k = next (grind (arith, nat_tests, e)) in
        coefficients-of-one (pay_of task.pay.now) n time p is mask below
        ∙ ap (λ (u : ℕ). form (pay_of_task task) u (bits n mask)) t
    each false e = refl
