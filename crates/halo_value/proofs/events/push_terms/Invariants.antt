-- The parts of the lengths so far are told.
use Rattle.halo_sums.specs.Sums.{numbers_from}
use Rattle.halo_status.specs.Pay.{pay_of}
use Rattle.halo_model.specs.PayPart.{parts_on_terms}
use Rattle.halo_compile.specs.OfTask.{basis_of_task}
use Rattle.halo_value.specs.Explained.{AddsParts}
use Rattle.halo_value.proofs.events.push_terms.Given as goal

abbrev pub invariant-loop-before : goal.invariant-loop-before
invariant-loop-before g l =
    AddsParts g.row.N (basis_of_task l.task l.task.group.now.ties) (pay_of l.task.pay.now)
    (parts_on_terms (pay_of l.task.pay.now).body (numbers_from 1 l.before)) l.fn.into.items l.into.items
