use Rattle.halo_status.specs.Pay.{pay_of}
use Rattle.halo_compile.specs.Form.{run_of, segment_at}
use Rattle.halo_compile.specs.OfTask.{basis_of_task}
use Rattle.halo_value.proofs.Explained.{adds-then, one-set-more}
use Rattle.halo_value.proofs.terms.push_segment.Goals as goal

pub loop-set-preserved : goal.loop-set-preserved
loop-set-preserved g c =
    let pay = pay_of c.args.task.now.pay.now in
    let run = run_of (segment_at c.args.task.now.form.now c.args.segment) in
    rw (one-set-more pay run g.row.N c.args.sets.now c.loop-set.set-index 0 c.loop-set-test.true)
    (adds-then g.row.N (basis_of_task c.args.task.now c.args.task.now.group.now.ties) pay _ _ c.args.into.now.items
    c.loop-set.into.items c.push_term.new.into.items c.loop-set.invariant c.in_ok-push_term.ensures)
