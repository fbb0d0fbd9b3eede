use Rattle.std.proofs.Common.{arith, lit<}
use Rattle.halo_compile.proofs.Living.{living-survive}
use Rattle.halo_along.specs.Along.{EnclosesAlong}
use Rattle.halo_along.specs.OfTask.{tree_task_of}
use Rattle.halo_annuity.proofs.AlongTree.{tree-annuity, tree-within}
use Rattle.halo_annuity.proofs.annuities.along_tree.Given.{Over}
use Rattle.halo_annuity.proofs.annuities.along_tree.Goals.{After-annuity_along}
use Rattle.halo_annuity.proofs.annuities.along_tree.Goals as goal

pub annuity_along-requires : goal.annuity_along-requires
annuity_along-requires g c =
    let along = c.of-along.ensures in (
      lit< tt,
      (
        along.valid c.requires.task c.requires.once,
        (
          rw along.value c.requires.annuity,
          (
            omega (arith, c.start.ensures.value, c.start.ensures.group.time),
            rw (along.value, c.start.ensures.value, c.alive.ensures.value)
                (living-survive g.row.N c.args.task.now.group.now c.alive.ensures.group),
          ),
        ),
      ),
    )

encloses : (g : Over) (c : After-annuity_along g) →
    let task = c.args.task.now in
    let group = task.group.now in
    EnclosesAlong (tree_task_of task) group.start group.alive c.annuity_along.result
encloses g c =
    rw (c.of-along.ensures.value, c.start.ensures.value, c.alive.ensures.value) at c.annuity_along.ensures.encloses

pub returns-clause-encloses : goal.returns-clause-encloses
returns-clause-encloses g c = tree-annuity c.args.task.now _ _ c.annuity_along.result (encloses g c)

pub returns-clause-within : goal.returns-clause-within
returns-clause-within g c = tree-within c.args.task.now _ _ c.annuity_along.result (encloses g c)

pub returns-clause-one : goal.returns-clause-one
returns-clause-one g c =
    rw (c.of-along.ensures.value, c.start.ensures.value, c.alive.ensures.value) at c.annuity_along.ensures.one

pub returns-clause-cost : goal.returns-clause-cost
returns-clause-cost g c = rw c.of-along.ensures.value at c.annuity_along.ensures.cost
