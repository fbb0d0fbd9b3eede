-- The parts of the sets so far are told.
use Rattle.std.proofs.Common.{map, take}
use Rattle.halo_sums.specs.Masks.{bits}
use Rattle.halo_status.specs.Pay.{pay_of}
use Rattle.halo_model.specs.PayPart.{parts_by_sets}
use Rattle.halo_compile.specs.Form.{run_of, segment_at}
use Rattle.halo_compile.specs.OfTask.{basis_of_task}
use Rattle.halo_value.specs.Explained.{AddsParts}
use Rattle.halo_value.proofs.terms.push_segment.Given as goal

abbrev pub invariant-loop-set : goal.invariant-loop-set
invariant-loop-set g l =
    AddsParts g.row.N (basis_of_task l.task l.task.group.now.ties) (pay_of l.task.pay.now)
    (parts_by_sets (pay_of l.task.pay.now) (run_of (segment_at l.task.form.now l.segment))
    (map (bits g.row.N) (take l.set-index l.sets)))
    l.fn.into.items l.into.items
