-- Which insurances are valued along the tree of their body, and not by the sets of its lives.
use Rattle.std.specs.Prelude.{◌≡◌, ℕ}
use Rattle.halo_status.specs.Pay.{pay_of}
use Rattle.halo_status.specs.ReadOnce.{IsReadOnce}
use Rattle.halo_contract.specs.declared.ties.Ties.TheVariants.{Declared}
use Rattle.halo_compile.specs.declared.task.Task.{Task}
use Rattle.halo_along.specs.Along.{FollowsTheTree}
use Rattle.halo_along.specs.OfTask.{tree_task_of}

-- the whole value: no life stands in the body twice, and the insurance falls due by its body alone,
-- or the lives of one year leave in the declared order
pub record GoesAlong {n m : ℕ} (task : Task n m) : Type 0 where
  pub once : IsReadOnce (pay_of task.pay.now).body
  pub follows : FollowsTheTree (tree_task_of task)

-- what falls on one event: no life stands in the body twice, and the lives of one year leave in the
-- declared order
pub record PartsGoAlong {n m : ℕ} (task : Task n m) : Type 0 where
  pub once : IsReadOnce (pay_of task.pay.now).body
  pub in_order : task.group.now.ties ≡ Declared
