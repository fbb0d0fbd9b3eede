use Rattle.std.proofs.Common.{◌≡◌, ◌∙◌, arith, false, sym}
use Rattle.halo_model.specs.SetValue.{can_fall_on_term}
use Rattle.halo_sums.specs.Masks.{has_bit}
use Rattle.halo_compile.specs.NamedSets.{named_of_task}
use Rattle.halo_compile.specs.OfTask.{pay_of_task}
use Rattle.halo_insure.specs.OfTask.{insured_basis}
use Rattle.halo_along.proofs.PartsAlong.{none-enclosed}
use Rattle.halo_insure.proofs.Passes.{end-cost}
use Rattle.halo_insure.proofs.WorthOn.{none-on-end}
use Rattle.halo_insure.proofs.parts.on_term.Goals as goal

pub returns-then-not-can_fall_on_term-clause-encloses : goal.returns-then-not-can_fall_on_term-clause-encloses
returns-then-not-can_fall_on_term-clause-encloses g c =
    let task = c.args.task.now in
    let b = insured_basis task in
    let silent : can_fall_on_term (pay_of_task task) c.args.n ≡ false =
    sym c.can_fall_on_term.ensures ∙ grind (arith, c.if-not-can_fall_on_term.true) in
    none-enclosed b (pay_of_task task) task.group.now.start (has_bit task.group.now.alive) _ c.exact.result
    (none-on-end b (pay_of_task task) task.group.now.start (has_bit task.group.now.alive) c.args.n silent)
    c.exact.ensures.lo c.exact.ensures.hi

pub returns-clause-by_sets : goal.returns-clause-by_sets
returns-clause-by_sets g c = λ by_sets.
    let task = c.args.task.now in
    omega (arith, c.dues_on_end.ensures.cost, end-cost task.horizon (named_of_task task))
