use Rattle.std.proofs.Common.{ℕ, lit<, subst, sym}
use Rattle.halo_sums.specs.Masks.{has_bit}
use Rattle.halo_compile.specs.OfTask.{pay_of_task}
use Rattle.halo_insure.specs.Events.{events_of, worth_on}
use Rattle.halo_insure.specs.OfTask.{HoldDuesOn, insured_basis}
use Rattle.halo_along.specs.Parts.{EnclosesPartOfOne}
use Rattle.halo_insure.proofs.TreeTasks.{alive-survive}
use Rattle.halo_insure.proofs.parts.worth_at_start.Goals as goal

pub worth_at-requires : goal.worth_at-requires
worth_at-requires g c =
    let task = c.args.task.now in
    let start = c.start.ensures.value in (
      lit< tt,
      (
        lit< tt,
        (
          c.requires.task,
          (
            c.requires.insurance,
            (
              c.requires.events,
              (
                subst (λ (t : ℕ). HoldDuesOn task (events_of c.args.events) t c.args.work.now) (sym start)
                    c.requires.values,
                alive-survive g.row.N task.group.now c.alive.ensures.group _ _ start c.alive.ensures.value,
              ),
            ),
          ),
        ),
      ),
    )

pub returns : goal.returns
returns g c =
    let task = c.args.task.now in
    let P : ℕ → ℕ → Type 0 = λ t alive. EnclosesPartOfOne (insured_basis task) (pay_of_task task) t (has_bit alive)
    (worth_on c.args.events (insured_basis task) (pay_of_task task) t (has_bit alive)) c.worth_at.result in
    subst (λ (t : ℕ). P t task.group.now.alive) c.start.ensures.value
    (subst (λ (alive : ℕ). P c.start.result alive) c.alive.ensures.value c.worth_at.ensures)
