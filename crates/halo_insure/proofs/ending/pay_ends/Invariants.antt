use Rattle.std.proofs.Common.{◌≡◌, ℕ, ◌+◌, ◌-◌, ◌<◌, true}
use Rattle.halo_model.specs.Backward.{above_zero, below_zero}
use Rattle.halo_life.specs.Lists.{entry}
use Rattle.halo_sums.specs.Within.{is_within}
use Rattle.halo_insure.specs.Ending.{IsPaidAtEnd}
use Rattle.halo_insure.proofs.ending.pay_ends.Given as goal

abbrev pub invariant-loop-set : goal.invariant-loop-set
invariant-loop-set g l = record {
  within : is_within l.set l.named ≡ true;
  plus : (k : ℕ) → k < l.set + 1 → is_within k l.named ≡ true
      → IsPaidAtEnd above_zero l.year k (entry l.fn.work.plus k) (entry l.work.plus k);
  minus : (k : ℕ) → k < l.set + 1 → is_within k l.named ≡ true
      → IsPaidAtEnd below_zero l.year k (entry l.fn.work.plus k) (entry l.work.minus k);
  rest : (k : ℕ) → (is_within k l.named ≡ true → l.set < k) → entry l.work.plus k ≡ entry l.fn.work.plus k;
}

abbrev pub decreases-loop-set : goal.decreases-loop-set
decreases-loop-set g l = l.named - l.set
