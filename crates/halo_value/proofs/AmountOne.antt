-- What encloses a pay of amount 1 encloses the same pay of any amount, each with amount 1.
use Rattle.std.proofs.Common.{◌≡◌, ℕ, Bool, refl}
use Rattle.halo_sums.specs.Masks.{has_bit}
use Rattle.halo_num.specs.Ends.{Ends}
use Rattle.halo_status.specs.Pay.{PlainPay, pay_of}
use Rattle.halo_model.specs.Basis.{Basis}
use Rattle.halo_model.specs.Coefficient.{form}
use Rattle.halo_model.specs.Counts.{measures_of}
use Rattle.halo_model.specs.Enclosed.{EnclosesOne, of_one}
use Rattle.halo_contract.specs.declared.ties.Ties.{Ties}
use Rattle.halo_compile.specs.OfTask.{basis_of_task}
use Rattle.halo_compile.specs.declared.task.Task.{Task}
use Rattle.halo_annuity.specs.AtTime.{EnclosesAnnuity}
use Rattle.halo_annuity.specs.Bounds.{IsWithinMost}

-- the measures of a pay do not see its amount
pub measures-of-one : (b : Basis) (pay : PlainPay) → measures_of b (of_one pay) ≡ measures_of b pay
unfolding form
measures-of-one b pay = refl

pub of-any-amount : (b : Basis) (pay : PlainPay) (T : ℕ) (S : ℕ → Bool) (i : Ends)
    → EnclosesOne b (of_one pay) T S i → EnclosesOne b pay T S i
of-any-amount b pay T S i is = record {
  encloses = is.encloses;
  narrow = rw (measures-of-one b pay) at is.narrow;
  within = rw (measures-of-one b pay) at is.within;
}

-- an annuity of a task, by each rule for ties
pub of-annuity : {n m : ℕ} (task : Task n m) (t alive : ℕ) (i : Ends) → EnclosesAnnuity task t alive i
    → IsWithinMost task i → (ties : Ties)
    → EnclosesOne (basis_of_task task ties) (pay_of task.pay.now) t (has_bit alive) i
of-annuity task t alive i is within ties =
    of-any-amount (basis_of_task task ties) (pay_of task.pay.now) t (has_bit alive) i
    (record { encloses = is.encloses ties; narrow = is.narrow ties; within = within ties })
