use Rattle.std.proofs.Common.{lit<}
use Rattle.halo_along.specs.Along.{EnclosesAlong}
use Rattle.halo_insure.proofs.TreeTasks.{alive-survive, value-told}
use Rattle.halo_insure.proofs.whole.insurance.Goals as goal

pub insurance_along-requires : goal.insurance_along-requires
insurance_along-requires g c =
    let task = c.args.task.now in (
      lit< tt,
      (
        c.of.ensures.valid c.requires.task (c.read_once.ensures.0 c.if-read_once.true),
        (
          rw c.of.ensures.value c.requires.insurance,
          (
            rw c.of.ensures.value c.requires.unmarked,
            (
              rw c.of.ensures.value c.requires.any_cause,
              (
                rw c.start.ensures.value c.start.ensures.group.time,
                rw c.of.ensures.value
                    (alive-survive g.row.N task.group.now c.alive.ensures.group _ _
                    c.start.ensures.value c.alive.ensures.value),
              ),
            ),
          ),
        ),
      ),
    )

pub returns-then-read_once-clause-encloses : goal.returns-then-read_once-clause-encloses
unfolding EnclosesAlong
returns-then-read_once-clause-encloses g c =
    value-told c.args.task.now c.of.result c.of.ensures.value _ _ c.start.ensures.value c.alive.ensures.value
    c.insurance_along.result (c.insurance_along.ensures.encloses c.of.result.group.now.ties)
