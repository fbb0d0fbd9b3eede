-- A year of the task of an insurance.
use Rattle.std.specs.Prelude.{◌≡◌, ℕ, suc, ◌+◌, ◌-◌, ◌^◌, ◌<◌, ◌≤◌, Bool, cond, nat_le, pos}
use Rattle.halo_sums.specs.Masks.{bits}
use Rattle.halo_num.specs.Ends.{HasWidth, IsSized, IsWithin, fine}
use Rattle.halo_num.specs.Enclosure.{Encloses}
use Rattle.halo_model.specs.Coefficient.{form}
use Rattle.halo_model.specs.Payment.{factor}
use Rattle.halo_poly.specs.Poly.{coefficient_at}
use Rattle.halo_compile.specs.OfTask.{pay_of_task}
use Rattle.halo_compile.specs.declared.payment.TheConstants.{MOST_PAID}
use Rattle.halo_compile.specs.declared.task.Task.{Task}
use Rattle.halo_insure.specs.declared.due.TheConstants.{GREATEST_COEFFICIENT}
use Rattle.halo_insure.specs.declared.sets.Year.{Year}
use Rattle.halo_insure.specs.Dues.{coefficient_before}
use Rattle.halo_insure.specs.OfTask.{insured_basis}
use Rattle.halo_insure.specs.YearSets.{next_coefficient}

-- It is year k of a task, where the end of a term of k + 1 years counts or not: it has the discount
-- factor of the year, what the pay pays for it, and the coefficients of each set in it and in the
-- year after.
pub record IsYearOf {n m : ℕ} (task : Task n m) (k : ℕ) (ends : Bool) (year : Year m)
    : Type 0 where
  pub discount : Encloses year.discount (pos ((insured_basis task).q k))
      ((insured_basis task).p k + (insured_basis task).q k)
  pub narrow : HasWidth year.discount 1
  pub within : IsWithin year.discount (pos 0) (pos fine)
  pub payment : year.pays.payment
      ≡ cond (nat_le task.pay.now.defer k) (factor task.pay.now.vary (k - task.pay.now.defer)) 0
  pub small : year.pays.payment ≤ MOST_PAID
  pub counts : year.pays.ends ≡ ends
  pub here : (mask : ℕ) → mask < 2 ^ n
      → coefficient_at year.here.now mask ≡ form (pay_of_task task) k (bits n mask)
  pub next : (mask : ℕ) → mask < 2 ^ n
      → next_coefficient year mask
      ≡ coefficient_before (pay_of_task task) task.horizon (suc k) (bits n mask)
  pub here_sized : (mask : ℕ) → mask < 2 ^ n
      → IsSized (coefficient_at year.here.now mask) GREATEST_COEFFICIENT
  pub next_sized : (mask : ℕ) → mask < 2 ^ n
      → IsSized (coefficient_at year.next.now mask) GREATEST_COEFFICIENT
