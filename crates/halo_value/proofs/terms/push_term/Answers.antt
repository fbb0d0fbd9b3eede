use Rattle.std.proofs.Common.{◌≡◌, arith, of_z, to_z, rules, refl, subst, ℕ, ◌<◌}
use Rattle.std.proofs.lemmas.Int.{ints, to_z-of_z}
use Rattle.std.specs.Int.{w64}
use Rattle.halo_status.specs.Pay.{pay_of}
use Rattle.halo_compile.specs.OfTask.{basis_of_task}
use Rattle.halo_value.proofs.CoefficientParts.{no-part, part-added}
use Rattle.halo_value.proofs.terms.push_term.Goals as goal

pub returns-then-coefficient-eq0 : goal.returns-then-coefficient-eq0
returns-then-coefficient-eq0 g c =
    no-part c.args.task.now c.requires.task c.start-start.ensures.group c.args.segment c.args.set c.requires.segment
    c.requires.set c.segment-run.result.now c.segment-run.ensures c.coefficient-coefficient.result
    c.coefficient-coefficient.ensures.value (omega (arith, ints)) c.args.into.now.items

pub returns : goal.returns
returns g c =
    let back : to_z w64 (of_z w64 c.coefficient-coefficient.result) ≡ c.coefficient-coefficient.result =
    search (rules, to_z-of_z) in
    part-added c.args.task.now c.requires.task c.start-start.ensures.group c.args.segment c.args.set
    c.requires.segment c.requires.set c.segment-run.result.now c.segment-run.ensures
    c.coefficient-coefficient.result c.coefficient-coefficient.ensures.value (λ zero. absurd (omega (arith, ints)))
    c.term_of_paid-value.result c.term_of_paid-value.ensures.encloses c.term_of_paid-value.ensures.narrow
    c.part_line.result
    (λ part one. c.part_line.ensures.line (basis_of_task c.args.task.now c.args.task.now.group.now.ties)
    (pay_of c.args.task.now.pay.now) part refl one) c.part_line.ensures.printable
    (subst (λ (k : ℕ). c.args.set < k) c.requires.task.sets c.requires.set) c.args.into.now.items c.push.new.self.items
    (rw back at c.in_ok-push.ensures.items)
