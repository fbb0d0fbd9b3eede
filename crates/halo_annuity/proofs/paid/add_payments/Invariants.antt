use Rattle.std.proofs.Common.{◌≡◌, ℕ, ◌+◌, ◌-◌, ◌<◌, true}
use Rattle.halo_sums.specs.Within.{is_within}
use Rattle.halo_life.specs.Lists.{entry}
use Rattle.halo_endowment.specs.Payments.{AddsPayments}
use Rattle.halo_annuity.proofs.paid.add_payments.Given as goal

abbrev pub invariant-loop-set : goal.invariant-loop-set
invariant-loop-set g l = record {
  within : is_within l.set l.named ≡ true;
  added : (k : ℕ) → k < l.set + 1 → is_within k l.named ≡ true
      → AddsPayments l.paid (entry l.fn.work.plus k) (entry l.fn.work.minus k) (entry l.work.minus k);
  rest : (k : ℕ) → (is_within k l.named ≡ true → l.set < k)
      → (entry l.work.plus k ≡ entry l.fn.work.plus k) × (entry l.work.minus k ≡ entry l.fn.work.minus k);
}

abbrev pub decreases-loop-set : goal.decreases-loop-set
decreases-loop-set g l = l.named - l.set
