-- The parts of the lives so far are told.
use Rattle.halo_sums.specs.Sums.{numbers_from}
use Rattle.halo_status.specs.Pay.{pay_of}
use Rattle.halo_model.specs.PayPart.{parts_on_lives}
use Rattle.halo_compile.specs.OfTask.{basis_of_task}
use Rattle.halo_value.specs.Explained.{AddsParts}
use Rattle.halo_value.proofs.events.push_lives.Given as goal

abbrev pub invariant-loop-life : goal.invariant-loop-life
invariant-loop-life g l =
    AddsParts g.row.N (basis_of_task l.task l.task.group.now.ties) (pay_of l.task.pay.now)
    (parts_on_lives (pay_of l.task.pay.now).body (numbers_from 0 l.life)) l.fn.into.items l.into.items
