-- The sums of the numbers before this one are made.
use Rattle.std.proofs.Common.{◌≡◌, ℕ, ◌<◌, [], get_or, length}
use Rattle.halo_poly.specs.Poly.{EachOfSets, value_on, values_on}
use Rattle.halo_poly.specs.Symmetric.{symmetric_sum}
use Rattle.halo_poly.proofs.survivors.symmetric.Given as goal

abbrev pub invariant-loop-j : goal.invariant-loop-j
invariant-loop-j g l =
    record {
      count : length l.sums.items ≡ l.j;
      values : (j : ℕ) → j < l.j
          → EachOfSets g.row.M (λ s. value_on (get_or l.sums.items j []) s ≡ symmetric_sum j (values_on l.list s));
    }
