-- What is enclosed along the tree of a task's body is what the task's annuity is worth.
use Rattle.std.proofs.Common.{ℕ}
use Rattle.halo_num.specs.Ends.{Ends}
use Rattle.halo_status.specs.Pay.{pay_of}
use Rattle.halo_compile.specs.OfTask.{basis_of_task}
use Rattle.halo_compile.specs.declared.task.Task.{Task}
use Rattle.halo_along.specs.Along.{EnclosesAlong}
use Rattle.halo_along.specs.OfTask.{tree_task_of}
use Rattle.halo_along.proofs.AmountOne.{measures-of-one}
use Rattle.halo_annuity.specs.AtTime.{EnclosesAnnuity}
use Rattle.halo_annuity.specs.Bounds.{IsWithinMost}

module _ {n m : ℕ} (task : Task n m) (t alive : ℕ) (i : Ends) (is : EnclosesAlong (tree_task_of task) t alive i) where
  pub tree-annuity : EnclosesAnnuity task t alive i
  unfolding EnclosesAlong
  tree-annuity = record {
    encloses = λ ties. (is ties).encloses;
    narrow = λ ties. rw (measures-of-one (basis_of_task task ties) (pay_of task.pay.now)) (is ties).narrow;
  }

  pub tree-within : IsWithinMost task i
  unfolding EnclosesAlong
  tree-within = λ ties. rw (measures-of-one (basis_of_task task ties) (pay_of task.pay.now)) (is ties).within
