-- What the tree of its body tells of an insurance is what its task asks for.
use Rattle.std.proofs.Common.{◌≡◌, ℕ, ◌<◌, true, subst, sym}
use Rattle.halo_sums.specs.Masks.{has_bit}
use Rattle.halo_num.specs.Ends.{Ends}
use Rattle.halo_status.specs.Pay.{pay_of}
use Rattle.halo_contract.specs.declared.ties.Ties.{Ties}
use Rattle.halo_contract.specs.declared.ties.Ties.TheVariants.{Declared}
use Rattle.halo_model.specs.Enclosed.{EnclosesOne}
use Rattle.halo_life.specs.PlainGroup.{IsGroup, PlainGroup, survivors_in}
use Rattle.halo_compile.proofs.Living.{living-survive}
use Rattle.halo_compile.specs.OfTask.{basis_of_task, pay_of_task}
use Rattle.halo_compile.specs.declared.task.Task.{Task}
use Rattle.halo_along.proofs.AmountOne.{measures-of-one}
use Rattle.halo_along.specs.Along.{EnclosesValue}
use Rattle.halo_along.specs.OfTask.{tree_task_of}
use Rattle.halo_along.specs.Parts.{EnclosesWorthOnLife, EnclosesWorthOnTerm}
use Rattle.halo_along.specs.declared.tree_task.TreeTask.{TreeTask}
use Rattle.halo_insure.specs.OfTask.{insured_basis}
use Rattle.halo_insure.specs.Parts.{EnclosesEnd, EnclosesLeaving}

-- those that a group says are alive have survivors at its time
pub alive-survive : (n : ℕ) (g : PlainGroup) → IsGroup n g → (start alive : ℕ) → start ≡ g.start → alive ≡ g.alive
    → (i : ℕ) → i < n → has_bit alive i ≡ true → 0 < survivors_in g start i
alive-survive n g is start alive at_start living i below in_set =
    rw at_start (living-survive n g is i below (rw living at in_set))

module _ {n m : ℕ} (task : Task n m) (along : TreeTask n) (same : along ≡ tree_task_of task) where
  -- the whole value, at the start of the task's group
  pub value-told : (start alive : ℕ) → start ≡ task.group.now.start → alive ≡ task.group.now.alive
      → (i : Ends) → EnclosesValue along start alive i
      → EnclosesOne (insured_basis task) (pay_of_task task) task.group.now.start (has_bit task.group.now.alive) i
  value-told start alive at_start living i e =
      let told = rw (same, at_start, living) at e in
      let counts = measures-of-one (insured_basis task) (pay_of task.pay.now) in
      record { encloses = told.encloses; narrow = rw counts told.narrow; within = rw counts told.within }

  -- what falls on one event, where the lives of one year leave in the declared order
  module _ (in_order : task.group.now.ties ≡ Declared) where
    pub leaving-told : (life : ℕ) (i : Ends) → EnclosesWorthOnLife along life i
        → EnclosesLeaving (insured_basis task) (pay_of_task task)
        task.group.now.start (has_bit task.group.now.alive) life i
    leaving-told life i e =
        subst (λ (ties : Ties). EnclosesLeaving (basis_of_task task ties) (pay_of_task task)
        task.group.now.start (has_bit task.group.now.alive) life i) (sym in_order) (rw same at e)

    pub end-told : (years : ℕ) (i : Ends) → EnclosesWorthOnTerm along years i
        → EnclosesEnd (insured_basis task) (pay_of_task task)
        task.group.now.start (has_bit task.group.now.alive) years i
    end-told years i e =
        subst (λ (ties : Ties). EnclosesEnd (basis_of_task task ties) (pay_of_task task)
        task.group.now.start (has_bit task.group.now.alive) years i) (sym in_order) (rw same at e)
