use Rattle.std.proofs.Common.{ℕ, lit<, subst, sym}
use Rattle.halo_sums.specs.Masks.{has_bit}
use Rattle.halo_model.specs.Enclosed.{EnclosesOne}
use Rattle.halo_compile.specs.OfTask.{pay_of_task}
use Rattle.halo_insure.specs.OfTask.{HoldDuesAt, insured_basis}
use Rattle.halo_insure.proofs.TreeTasks.{alive-survive}
use Rattle.halo_insure.proofs.whole.value_by_sets.Goals as goal

pub value_at-requires : goal.value_at-requires
value_at-requires g c =
    let task = c.args.task.now in
    let start = c.start.ensures.value in (
      lit< tt,
      (
        lit< tt,
        (
          c.requires.task,
          (
            c.requires.insurance,
            (
              subst (λ (t : ℕ). HoldDuesAt task t c.insurance_all.new.work) (sym start) c.insurance_all.ensures.values,
              alive-survive g.row.N task.group.now c.alive.ensures.group _ _ start c.alive.ensures.value,
            ),
          ),
        ),
      ),
    )

pub returns-clause-encloses : goal.returns-clause-encloses
returns-clause-encloses g c =
    let task = c.args.task.now in
    let P : ℕ → ℕ → Type 0 = λ t alive.
    EnclosesOne (insured_basis task) (pay_of_task task) t (has_bit alive) c.value_at.result in
    subst (λ (t : ℕ). P t task.group.now.alive) c.start.ensures.value
    (subst (λ (alive : ℕ). P c.start.result alive) c.alive.ensures.value c.value_at.ensures)
