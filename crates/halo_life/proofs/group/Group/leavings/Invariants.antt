use Rattle.std.proofs.Common.{◌≡◌, ◌+◌, ◌-◌, ◌*◌, ◌≤◌, cond, true}
use Rattle.halo_sums.specs.Masks.{bits}
use Rattle.halo_sums.specs.Sets.{size_of}
use Rattle.halo_sums.specs.Within.{is_within}
use Rattle.halo_life.specs.PlainGroup.{is_even}
use Rattle.halo_life.specs.YearOfLives.{EnclosesLeaving, numbers_of}
use Rattle.halo_life.proofs.Filled.{AreFilled}
use Rattle.halo_life.proofs.Within.{sets_within}
use Rattle.halo_life.proofs.group.Group.leavings.Given as goal

abbrev pub invariant-loop-set : goal.invariant-loop-set
invariant-loop-set g l = record {
  within : is_within l.set l.named ≡ true;
  sets : AreFilled (EnclosesLeaving l.self.ties g.row.N (numbers_of l.self l.year)) l.named
      (l.set + 1) l.into.leavings;
  survivals : l.into.survivals ≡ l.initial.into.survivals;
  plus : l.into.plus ≡ l.initial.into.plus;
  minus : l.into.minus ≡ l.initial.into.minus;
  cost : l.steps ≤ l.initial.steps
      + cond (is_even l.self.ties) (size_of (bits g.row.N l.named)) 1 * sets_within (l.set + 1) l.named;
}

abbrev pub decreases-loop-set : goal.decreases-loop-set
decreases-loop-set g l = l.named - l.set
