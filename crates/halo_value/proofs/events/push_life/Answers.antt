use Rattle.std.proofs.Common.{refl, sym, ◌∙◌}
use Rattle.halo_status.specs.Pay.{pay_of}
use Rattle.halo_compile.specs.OfTask.{basis_of_task}
use Rattle.halo_model.specs.PayPart.{on_life}
use Rattle.halo_value.proofs.EventParts.{leaving-enclosed, life-added, no-life, part-small}
use Rattle.halo_value.proofs.events.push_life.Goals as goal

pub part_line-worth-requires-clause-small : goal.part_line-worth-requires-clause-small
part_line-worth-requires-clause-small g c =
    part-small c.args.task.now c.requires.task c.start-start.ensures.group c.requires.start _ _ _
    c.on_life-value.result c.on_life-value.ensures.encloses

pub returns-then-not-has_bit : goal.returns-then-not-has_bit
returns-then-not-has_bit g c =
    let task = c.args.task.now in
    no-life g.row.N (basis_of_task task task.group.now.ties) (pay_of task.pay.now) c.args.life c.args.into.now.items
    (sym (c.lives.ensures c.args.life) ∙ sym c.has_bit.ensures ∙ c.if-not-has_bit.true)

pub returns : goal.returns
returns g c =
    let task = c.args.task.now in
    let b = basis_of_task task task.group.now.ties in
    let pay = pay_of task.pay.now in
    let one = leaving-enclosed task c.requires.task c.start-start.ensures.group c.requires.start c.args.life
    c.on_life-value.result c.on_life-value.ensures.encloses in
    life-added g.row.N b pay c.args.life c.part_line-worth.result c.args.into.now.items c.push.new.self.items
    (sym (c.lives.ensures c.args.life) ∙ sym c.has_bit.ensures ∙ c.if-not-has_bit.false) c.requires.life
    (c.part_line-worth.ensures.line b pay (on_life c.args.life) refl one)
    c.part_line-worth.ensures.printable c.in_ok-push.ensures.items
