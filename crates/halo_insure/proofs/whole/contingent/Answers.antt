use Rattle.std.proofs.Common.{lit<}
use Rattle.halo_insure.proofs.TreeTasks.{alive-survive, value-told}
use Rattle.halo_insure.proofs.whole.contingent.Goals as goal

pub value_along-requires : goal.value_along-requires
value_along-requires g c =
    let task = c.args.task.now in
    let goes = c.goes_along.ensures.0 c.if-goes_along.true in (
      lit< tt,
      (
        c.of.ensures.valid c.requires.task goes.once,
        (
          rw c.of.ensures.value goes.follows,
          (
            rw c.start.ensures.value c.start.ensures.group.time,
            rw c.of.ensures.value
                (alive-survive g.row.N task.group.now c.alive.ensures.group _ _
                c.start.ensures.value c.alive.ensures.value),
          ),
        ),
      ),
    )

pub returns-then-goes_along-clause-encloses : goal.returns-then-goes_along-clause-encloses
returns-then-goes_along-clause-encloses g c =
    value-told c.args.task.now c.of.result c.of.ensures.value _ _ c.start.ensures.value c.alive.ensures.value
    c.value_along.result c.value_along.ensures.encloses
