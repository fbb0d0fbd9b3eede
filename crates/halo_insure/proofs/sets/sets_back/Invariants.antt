use Rattle.std.proofs.Common.{◌≡◌, ℕ, ◌+◌, ◌*◌, ◌-◌, ◌<◌, ◌≤◌, true}
use Rattle.halo_model.specs.Backward.{above_zero, below_zero}
use Rattle.halo_life.specs.Lists.{entry}
use Rattle.halo_life.proofs.Within.{sets_within}
use Rattle.halo_sums.specs.Within.{is_within}
use Rattle.halo_insure.specs.YearSets.{SetGoesBack}
use Rattle.halo_insure.proofs.sets.sets_back.Given as goal

abbrev pub invariant-loop-set : goal.invariant-loop-set
invariant-loop-set g l = record {
  within : is_within l.set l.named ≡ true;
  plus : (k : ℕ) → k < l.set + 1 → is_within k l.named ≡ true
      → SetGoesBack above_zero l.year l.fn.work k (entry l.fn.work.plus k) (entry l.work.plus k);
  minus : (k : ℕ) → k < l.set + 1 → is_within k l.named ≡ true
      → SetGoesBack below_zero l.year l.fn.work k (entry l.fn.work.minus k) (entry l.work.minus k);
  rest : (k : ℕ) → (is_within k l.named ≡ true → l.set < k)
      → (entry l.work.plus k ≡ entry l.fn.work.plus k) × (entry l.work.minus k ≡ entry l.fn.work.minus k);
  survivals : l.work.survivals ≡ l.fn.work.survivals;
  leavings : l.work.leavings ≡ l.fn.work.leavings;
  cost : l.steps ≤ l.fn.steps + 4 * sets_within (l.set + 1) l.named;
}

abbrev pub decreases-loop-set : goal.decreases-loop-set
decreases-loop-set g l = l.named - l.set
