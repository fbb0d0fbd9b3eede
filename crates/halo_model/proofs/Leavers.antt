-- Those who leave in a year by some causes, among those who are alive at its start.
use Rattle.std.proofs.Common.{◌≡◌, ℕ, suc, ◌+◌, ◌≤◌, arith, List, [], ◌∷◌, Bool, true, false, cond}
use Rattle.halo_sums.specs.Sums.{numbers_from, sum_over}
use Rattle.halo_model.specs.Life.{IsLife, PlainLife, leavers_by, leavers_in}

by-some-causes : (js : List ℕ) (causes : ℕ → Bool) (f : ℕ → ℕ)
    → sum_over js (λ j. cond (causes j) (f j) 0) ≤ sum_over js f
by-some-causes [] causes f = omega arith
by-some-causes (j ∷ js) causes f = each (causes j) (by-some-causes js causes f)
  where
    each : (asked : Bool) → sum_over js (λ j. cond (causes j) (f j) 0) ≤ sum_over js f
        → cond asked (f j) 0 + sum_over js (λ j. cond (causes j) (f j) 0) ≤ f j + sum_over js f
    each true h = omega (arith, h)
    each false h = omega (arith, h)

-- by some causes no more leave than by whichever
pub leavers_by-le : (causes : ℕ → Bool) (x : PlainLife) (k : ℕ) → leavers_by causes x k ≤ leavers_in x k
leavers_by-le causes x k = by-some-causes (numbers_from 0 x.causes) causes (x.leavers k)

-- those who leave and those who survive a year are at most those alive at its start
pub year-splits : (causes : ℕ → Bool) (x : PlainLife)
    → IsLife x → (k : ℕ) → leavers_by causes x k + x.survivors (suc k) ≤ x.survivors k
year-splits causes x rule k = omega (arith, rule.falls k, leavers_by-le causes x k)

-- after the last year of its table nobody leaves
pub leavers_by-past : (causes : ℕ → Bool) (x : PlainLife)
    → IsLife x → (k : ℕ) → x.years_left ≤ k → leavers_by causes x k ≡ 0
leavers_by-past causes x rule k past = omega (arith, year-splits causes x rule k, rule.ends k past)
