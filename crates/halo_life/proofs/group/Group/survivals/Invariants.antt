use Rattle.std.proofs.Common.{◌≡◌, ◌+◌, ◌-◌, true}
use Rattle.halo_sums.specs.Within.{is_within}
use Rattle.halo_life.specs.YearOfLives.{EnclosesSurvival, numbers_of}
use Rattle.halo_life.proofs.Filled.{AreFilled}
use Rattle.halo_life.proofs.Within.{sets_within}
use Rattle.halo_life.proofs.group.Group.survivals.Given as goal

abbrev pub invariant-loop-set : goal.invariant-loop-set
invariant-loop-set g l = record {
  within : is_within l.set l.named ≡ true;
  sets : AreFilled (EnclosesSurvival g.row.N (numbers_of l.self l.year)) l.named (l.set + 1) l.into.survivals;
  leavings : l.into.leavings ≡ l.initial.into.leavings;
  plus : l.into.plus ≡ l.initial.into.plus;
  minus : l.into.minus ≡ l.initial.into.minus;
  cost : l.steps + 1 ≡ l.initial.steps + sets_within (l.set + 1) l.named;
}

abbrev pub decreases-loop-set : goal.decreases-loop-set
decreases-loop-set g l = l.named - l.set
