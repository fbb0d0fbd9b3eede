use Rattle.std.proofs.Common.{◌≡◌, ◌∙◌, arith, Bool, false, true, sym}
use Rattle.halo_model.specs.SetValue.{can_fall_on_life}
use Rattle.halo_sums.specs.Masks.{has_bit}
use Rattle.halo_compile.specs.OfTask.{pay_of_task}
use Rattle.halo_insure.specs.OfTask.{insured_basis}
use Rattle.halo_along.proofs.PartsAlong.{none-enclosed}
use Rattle.halo_insure.proofs.TreeTasks.{leaving-told}
use Rattle.halo_insure.proofs.WorthOn.{none-on-leaving}
use Rattle.halo_insure.proofs.parts.on_life.Goals as goal

not-both : {A : Type 0} (b : Bool) → b ≡ true → b ≡ false → A
not-both b is isnt = absurd (cc)

pub returns-then-not-has_bit-clause-encloses : goal.returns-then-not-has_bit-clause-encloses
returns-then-not-has_bit-clause-encloses g c =
    let task = c.args.task.now in
    let b = insured_basis task in
    let silent : can_fall_on_life (pay_of_task task) c.args.life ≡ false =
    sym (c.failing_lives.ensures c.args.life) ∙ sym c.has_bit.ensures ∙ grind (arith, c.if-not-has_bit.true) in
    none-enclosed b (pay_of_task task) task.group.now.start (has_bit task.group.now.alive) _ c.exact.result
    (none-on-leaving b (pay_of_task task) task.group.now.start (has_bit task.group.now.alive) c.args.life silent)
    c.exact.ensures.lo c.exact.ensures.hi

pub returns-then-parts_go_along-clause-encloses : goal.returns-then-parts_go_along-clause-encloses
returns-then-parts_go_along-clause-encloses g c =
    let goes = c.parts_go_along.ensures.0 c.if-parts_go_along.true in
    leaving-told c.args.task.now c.of.result c.of.ensures.value goes.in_order c.args.life
    c.on_life_along.result c.on_life_along.ensures.encloses

pub returns-then-parts_go_along-clause-none : goal.returns-then-parts_go_along-clause-none
returns-then-parts_go_along-clause-none g c = rw c.of.ensures.value at c.on_life_along.ensures.none

pub returns-then-parts_go_along-clause-along_tree : goal.returns-then-parts_go_along-clause-along_tree
returns-then-parts_go_along-clause-along_tree g c = λ goes. rw c.of.ensures.value at c.on_life_along.ensures.cost

pub returns-then-parts_go_along-clause-by_sets : goal.returns-then-parts_go_along-clause-by_sets
returns-then-parts_go_along-clause-by_sets g c = λ by_sets.
    absurd (by_sets (c.parts_go_along.ensures.0 c.if-parts_go_along.true))

pub returns-then-parts_go_along-clause-no_pass : goal.returns-then-parts_go_along-clause-no_pass
returns-then-parts_go_along-clause-no_pass g c = λ by_sets in_order.
    absurd (by_sets (c.parts_go_along.ensures.0 c.if-parts_go_along.true))

pub returns-clause-along_tree : goal.returns-clause-along_tree
returns-clause-along_tree g c = λ goes.
    not-both c.parts_go_along.result (c.parts_go_along.ensures.1 goes) c.if-parts_go_along.false

pub returns-clause-none : goal.returns-clause-none
returns-clause-none g c = λ silent.
    let can : c.has_bit.result ≡ true = grind (arith, c.if-not-has_bit.false) in
    not-both (can_fall_on_life (pay_of_task c.args.task.now) c.args.life)
    (sym (c.failing_lives.ensures c.args.life) ∙ sym c.has_bit.ensures ∙ can) silent
