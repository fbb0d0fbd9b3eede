use Rattle.std.proofs.Common.{refl, sym, ◌∙◌}
use Rattle.halo_status.specs.Pay.{pay_of}
use Rattle.halo_compile.specs.OfTask.{basis_of_task}
use Rattle.halo_model.specs.PayPart.{on_term}
use Rattle.halo_value.proofs.EventParts.{end-enclosed, part-small, term-added}
use Rattle.halo_value.proofs.events.push_term.Goals as goal

pub part_line-worth-requires-clause-small : goal.part_line-worth-requires-clause-small
part_line-worth-requires-clause-small g c =
    part-small c.args.task.now c.requires.task c.start-start.ensures.group c.requires.start _ _ _
    c.on_term-value.result c.on_term-value.ensures.encloses

pub returns : goal.returns
returns g c =
    let task = c.args.task.now in
    let b = basis_of_task task task.group.now.ties in
    let pay = pay_of task.pay.now in
    let one = end-enclosed task c.requires.task c.start-start.ensures.group c.requires.start c.args.years
    c.on_term-value.result c.on_term-value.ensures.encloses in
    term-added g.row.N b pay c.args.years c.part_line-worth.result c.args.into.now.items c.push.new.self.items
    (sym c.has_term.ensures ∙ c.if-not-has_term.false)
    (c.part_line-worth.ensures.line b pay (on_term c.args.years) refl one)
    c.part_line-worth.ensures.printable c.in_ok-push.ensures.items
