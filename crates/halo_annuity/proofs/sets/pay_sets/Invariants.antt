use Rattle.std.proofs.Common.{◌≡◌, ℕ, ◌+◌, ◌*◌, ◌-◌, ◌<◌, true}
use Rattle.halo_sums.specs.Within.{is_within}
use Rattle.halo_life.specs.Lists.{entry}
use Rattle.halo_model.specs.Backward.{above_zero, below_zero}
use Rattle.halo_poly.specs.Poly.{coefficient_at}
use Rattle.halo_annuity.specs.SetSteps.{GrowsBy}
use Rattle.halo_annuity.proofs.sets.pay_sets.Given as goal

abbrev pub invariant-loop-set : goal.invariant-loop-set
invariant-loop-set g l = record {
  within : is_within l.set l.named ≡ true;
  plus : (k : ℕ) → k < l.set + 1 → is_within k l.named ≡ true
      → GrowsBy (l.paid * above_zero (coefficient_at l.poly k)) (entry l.fn.work.plus k) (entry l.work.plus k);
  minus : (k : ℕ) → k < l.set + 1 → is_within k l.named ≡ true
      → GrowsBy (l.paid * below_zero (coefficient_at l.poly k)) (entry l.fn.work.minus k) (entry l.work.minus k);
  rest : (k : ℕ) → (is_within k l.named ≡ true → l.set < k)
      → (entry l.work.plus k ≡ entry l.fn.work.plus k) × (entry l.work.minus k ≡ entry l.fn.work.minus k);
}

abbrev pub decreases-loop-set : goal.decreases-loop-set
decreases-loop-set g l = l.named - l.set
