use Rattle.std.proofs.Common.{◌≡◌, ◌+◌, ◌*◌, ◌≤◌, cond}
use Rattle.halo_sums.specs.Sums.{numbers_from, sum_over}
use Rattle.halo_table.specs.DecrementTable.{leavers_at}
use Rattle.halo_model.specs.Chance.{asked}
use Rattle.halo_model.specs.Horizon.{life_at}
use Rattle.halo_life.proofs.group.Group.leavers.Given as goal

abbrev pub invariant-loop-cause : goal.invariant-loop-cause
invariant-loop-cause g l = record {
  sum : l.leavers ≡ sum_over (numbers_from 0 l.cause) (λ j. cond (asked l.fn.causes j)
      (leavers_at l.self.file (life_at l.self.lives l.i).table ((life_at l.self.lives l.i).age + l.k) j) 0);
  small : l.leavers ≤ l.cause * 1000000000000;
}
