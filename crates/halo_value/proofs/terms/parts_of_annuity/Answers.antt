use Rattle.std.proofs.Common.{◌≡◌, ◌<◌, [], ap, subst, arith, length, map, ◌∙◌, refl}
use Rattle.std.specs.List.{AllZip}
use Rattle.std.proofs.lemmas.List.{take_all}
use Rattle.halo_lines.specs.Parts.{TellsPart}
use Rattle.halo_status.specs.Pay.{pay_of}
use Rattle.halo_model.specs.PayPart.{annuity_parts}
use Rattle.halo_compile.specs.Form.{run_of}
use Rattle.halo_compile.specs.OfTask.{basis_of_task}
use Rattle.halo_compile.proofs.Tasks.{count-lives}
use Rattle.halo_value.proofs.Explained.{adds-then, annuity-parts-are, one-run-more}
use Rattle.halo_value.proofs.terms.parts_of_annuity.Goals as goal

pub loop-segment-preserved : goal.loop-segment-preserved
loop-segment-preserved g c =
    let pay = pay_of c.args.task.now.pay.now in
    let within : c.loop-segment.segment < length c.args.task.now.form.now =
    omega (arith, c.loop-segment-test.true, ap length c.segments-segment-end.ensures) in
    rw (one-run-more pay g.row.N c.args.task.now.form.now c.loop-segment.segment within)
    (adds-then g.row.N (basis_of_task c.args.task.now c.args.task.now.group.now.ties) pay _ _ []
    c.loop-segment.parts.items c.push_segment.new.into.items c.loop-segment.invariant c.in_ok-push_segment.ensures)

pub returns-clause-explains : goal.returns-clause-explains
returns-clause-explains g c =
    let task = c.args.task.now in
    let pay = pay_of task.pay.now in
    let b = basis_of_task task task.group.now.ties in
    let count : length b.lives ≡ g.row.N = count-lives task.group.now ∙ c.start-start.ensures.group.count in
    let all = take_all c.loop-segment.segment task.form.now
    (omega (arith, c.loop-segment-test.false, ap length c.segments-segment-end.ensures)) in
    let told = subst
    (λ fs. AllZip (TellsPart b pay) (annuity_parts pay g.row.N (map run_of fs)) c.loop-segment.parts.items)
    all (c.loop-segment.invariant.tells [] tt) in (
      annuity_parts pay g.row.N (map run_of task.form.now),
      annuity-parts-are pay.kind b pay _ c.requires.annuity (
        map run_of task.form.now,
        rw (count, ← c.requires.task.horizon_is) c.requires.task.form.runs,
        rw count refl,
      ),
      told,
    )
