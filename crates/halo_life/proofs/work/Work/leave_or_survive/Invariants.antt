use Rattle.std.proofs.Common.{◌≡◌, ℕ, ◌≤◌, ◌-◌, true}
use Rattle.halo_sums.specs.Within.{is_within}
use Rattle.halo_life.specs.Complement.{complement}
use Rattle.halo_life.specs.Lists.{entry}
use Rattle.halo_life.proofs.work.Work.leave_or_survive.Given as goal

abbrev pub invariant-loop-set : goal.invariant-loop-set
invariant-loop-set g l = record {
  within : is_within l.set l.named ≡ true;
  chances : (mask : ℕ) → mask ≤ l.set → is_within mask l.named ≡ true
      → entry l.self.leavings mask ≡ complement (entry l.initial.self.survivals mask);
  survivals : l.self.survivals ≡ l.initial.self.survivals;
  plus : l.self.plus ≡ l.initial.self.plus;
  minus : l.self.minus ≡ l.initial.self.minus;
}

abbrev pub decreases-loop-set : goal.decreases-loop-set
decreases-loop-set g l = l.named - l.set
