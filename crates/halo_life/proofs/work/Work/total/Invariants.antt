use Rattle.std.proofs.Common.{◌≡◌, ◌+◌, ◌-◌, ◌*◌, ◌^◌, ◌≤ℤ◌, neg_ℤ, pos, true}
use Rattle.halo_sums.specs.Sums.{int_sum_over, numbers_from}
use Rattle.halo_sums.specs.Within.{is_within}
use Rattle.halo_life.specs.Total.{share}
use Rattle.halo_life.proofs.work.Work.total.Given as goal

abbrev pub invariant-loop-set : goal.invariant-loop-set
invariant-loop-set g l = record {
  within : is_within l.set l.alive ≡ true;
  lo : l.sum.lo ≡ int_sum_over (numbers_from 0 (l.set + 1)) (λ mask. (share l.self l.alive mask).lo);
  hi : l.sum.hi ≡ int_sum_over (numbers_from 0 (l.set + 1)) (λ mask. (share l.self l.alive mask).hi);
  low : neg_ℤ (pos ((l.set + 1) * 10 ^ 32)) ≤ℤ l.sum.lo;
  high : l.sum.hi ≤ℤ pos ((l.set + 1) * 10 ^ 32);
}

abbrev pub decreases-loop-set : goal.decreases-loop-set
decreases-loop-set g l = l.alive - l.set
