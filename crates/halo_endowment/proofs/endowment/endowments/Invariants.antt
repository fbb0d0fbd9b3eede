use Rattle.std.proofs.Common.{◌≡◌, ℕ, ◌+◌, ◌-◌, ◌≤◌, pos, true}
use Rattle.halo_sums.specs.Within.{is_within}
use Rattle.halo_num.specs.Ends.{IsWithin, fine}
use Rattle.halo_interest.specs.Powers.{IsPower}
use Rattle.halo_model.specs.Basis.{Basis}
use Rattle.halo_model.specs.FromTables.{lives_of}
use Rattle.halo_life.specs.Lists.{entry}
use Rattle.halo_life.proofs.Filled.{AreFilled}
use Rattle.halo_life.proofs.Within.{sets_within}
use Rattle.halo_endowment.specs.Endowment.{EnclosesEndowment}
use Rattle.halo_endowment.proofs.endowment.endowments.Given as goal

abbrev pub invariant-loop-set : goal.invariant-loop-set
invariant-loop-set g l = record {
  within : is_within l.set l.named ≡ true;
  inside : AreFilled (λ mask i. IsWithin i (pos 0) (pos fine)) l.named (l.set + 1) l.work.plus;
  sets : (b : Basis) → b.lives ≡ lives_of l.group.file l.group.lives
      → IsPower b.q (λ k. b.p k + b.q k) l.group.start (l.t - l.group.start) l.fn.discount
      → AreFilled (EnclosesEndowment b g.row.N l.group.start l.t) l.named (l.set + 1) l.work.plus;
  minus : (mask : ℕ) → entry l.work.minus mask ≡ entry l.fn.work.minus mask;
  cost : l.steps + 1 ≤ l.fn.steps + sets_within (l.set + 1) l.named;
}

abbrev pub decreases-loop-set : goal.decreases-loop-set
decreases-loop-set g l = l.named - l.set
