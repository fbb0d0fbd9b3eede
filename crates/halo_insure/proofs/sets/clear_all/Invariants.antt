use Rattle.std.proofs.Common.{◌≡◌, ℕ, ◌+◌, ◌-◌, ◌<◌, false, true}
use Rattle.halo_sums.specs.Within.{is_within}
use Rattle.halo_life.specs.Lists.{entry, nothing}
use Rattle.halo_insure.proofs.sets.clear_all.Given as goal

abbrev pub invariant-loop-set : goal.invariant-loop-set
invariant-loop-set g l = record {
  within : is_within l.set l.named ≡ true;
  plus : (k : ℕ) → k < l.set + 1 → is_within k l.named ≡ true → entry l.work.plus k ≡ nothing;
  minus : (k : ℕ) → k < l.set + 1 → is_within k l.named ≡ true → entry l.work.minus k ≡ nothing;
  rest : (k : ℕ) → is_within k l.named ≡ false
      → (entry l.work.plus k ≡ entry l.fn.work.plus k) × (entry l.work.minus k ≡ entry l.fn.work.minus k);
}

abbrev pub decreases-loop-set : goal.decreases-loop-set
decreases-loop-set g l = l.named - l.set
