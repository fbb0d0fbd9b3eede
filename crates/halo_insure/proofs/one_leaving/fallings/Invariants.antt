use Rattle.std.proofs.Common.{◌≡◌, ℕ, ◌+◌, ◌-◌, ◌≤◌, true}
use Rattle.halo_sums.specs.Masks.{has_bit}
use Rattle.halo_sums.specs.Within.{is_within}
use Rattle.halo_model.specs.Chance.{asked}
use Rattle.halo_life.specs.Lists.{entry}
use Rattle.halo_life.proofs.Filled.{AreFilled}
use Rattle.halo_life.proofs.Within.{sets_within}
use Rattle.halo_compile.specs.OfTask.{pay_of_task}
use Rattle.halo_insure.specs.OneLeaving.{EnclosesFalling}
use Rattle.halo_insure.specs.OfTask.{insured_basis}
use Rattle.halo_insure.proofs.one_leaving.fallings.Given as goal

abbrev pub invariant-loop-set : goal.invariant-loop-set
invariant-loop-set g l = record {
  within : is_within l.set l.others ≡ true;
  sets : AreFilled (EnclosesFalling (insured_basis l.task) (asked (pay_of_task l.task).causes) g.row.N
      l.task.group.now.start l.life l.k) l.others (l.set + 1) l.work.plus;
  rest : (mask : ℕ) → has_bit mask l.life ≡ true
      → (entry l.work.plus mask ≡ entry l.fn.work.plus mask)
      × (entry l.work.minus mask ≡ entry l.fn.work.minus mask);
  cost : l.steps ≤ l.fn.steps + sets_within (l.set + 1) l.others;
}

abbrev pub decreases-loop-set : goal.decreases-loop-set
decreases-loop-set g l = l.others - l.set
