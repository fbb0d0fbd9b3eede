use Rattle.std.proofs.Common.{◌≡◌, ℕ, ◌+◌, ◌-◌, ◌<◌, false, true}
use Rattle.halo_sums.specs.Masks.{has_bit}
use Rattle.halo_sums.specs.Within.{is_within}
use Rattle.halo_life.specs.Lists.{entry}
use Rattle.halo_insure.specs.OneLeaving.{IsPaidOnLeaving}
use Rattle.halo_insure.proofs.one_leaving.pay_leavings.Given as goal

abbrev pub invariant-loop-set : goal.invariant-loop-set
invariant-loop-set g l = record {
  within : is_within l.set l.named ≡ true;
  paid : (k : ℕ) → k < l.set + 1 → is_within k l.named ≡ true → has_bit k l.life ≡ true
      → IsPaidOnLeaving l.year l.life k l.fn.work l.work;
  rest : (k : ℕ) → (is_within k l.named ≡ true → l.set < k)
      → (entry l.work.plus k ≡ entry l.fn.work.plus k) × (entry l.work.minus k ≡ entry l.fn.work.minus k);
  chances : (k : ℕ) → has_bit k l.life ≡ false → entry l.work.plus k ≡ entry l.fn.work.plus k;
}

abbrev pub decreases-loop-set : goal.decreases-loop-set
decreases-loop-set g l = l.named - l.set
