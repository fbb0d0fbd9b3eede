use Rattle.std.proofs.Common.{◌≡◌, ℕ, true, arith, lit<, subst, sym}
use Rattle.halo_sums.specs.Masks.{has_bit}
use Rattle.halo_compile.specs.OfTask.{HaveSurvivorsAt}
use Rattle.halo_along.specs.AtOnce.{PaysAtOnce}
use Rattle.halo_annuity.specs.AtTime.{EnclosesAnnuity, HoldAt}
use Rattle.halo_compile.proofs.Living.{living-survive}
use Rattle.halo_annuity.proofs.annuities.by_sets.Goals as goal

pub value_at-requires : goal.value_at-requires
value_at-requires g c =
    let task = c.args.task.now in
    let start = c.start.ensures.value in
    let there : HaveSurvivorsAt task task.group.now.start c.alive.result = λ i below alive.
    living-survive g.row.N task.group.now c.alive.ensures.group i below
    (subst (λ (mask : ℕ). has_bit mask i ≡ true) c.alive.ensures.value alive) in (
      lit< tt,
      (
        lit< tt,
        (
          c.requires.task,
          (
            c.requires.annuity,
            (
              omega (arith, start, c.start.ensures.group.time),
              (
                subst (λ (t : ℕ). HoldAt task t c.annuity_all.new.work) (sym start) c.annuity_all.ensures.values,
                subst (λ (t : ℕ). HaveSurvivorsAt task t c.alive.result) (sym start) there,
              ),
            ),
          ),
        ),
      ),
    )

pub returns-clause-encloses : goal.returns-clause-encloses
returns-clause-encloses g c =
    let task = c.args.task.now in
    subst (λ (t : ℕ). EnclosesAnnuity task t task.group.now.alive c.value_at.result) c.start.ensures.value
    (subst (λ (alive : ℕ). EnclosesAnnuity task c.start.result alive c.value_at.result) c.alive.ensures.value
    c.value_at.ensures.encloses)

pub returns-clause-one : goal.returns-clause-one
returns-clause-one g c = λ at_once.
    let task = c.args.task.now in
    c.value_at.ensures.one
    (subst (λ (t : ℕ). PaysAtOnce task.pay.now t c.alive.result) (sym c.start.ensures.value)
    (subst (λ (alive : ℕ). PaysAtOnce task.pay.now task.group.now.start alive) (sym c.alive.ensures.value) at_once))
