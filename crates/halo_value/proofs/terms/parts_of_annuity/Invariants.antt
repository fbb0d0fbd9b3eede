-- The parts of the segments so far are told.
use Rattle.std.proofs.Common.{[], map, take}
use Rattle.halo_status.specs.Pay.{pay_of}
use Rattle.halo_model.specs.PayPart.{annuity_parts}
use Rattle.halo_compile.specs.Form.{run_of}
use Rattle.halo_compile.specs.OfTask.{basis_of_task}
use Rattle.halo_value.specs.Explained.{AddsParts}
use Rattle.halo_value.proofs.terms.parts_of_annuity.Given as goal

abbrev pub invariant-loop-segment : goal.invariant-loop-segment
invariant-loop-segment g l =
    AddsParts g.row.N (basis_of_task l.task l.task.group.now.ties) (pay_of l.task.pay.now)
    (annuity_parts (pay_of l.task.pay.now) g.row.N (map run_of (take l.segment l.task.form.now)))
    [] l.parts.items
