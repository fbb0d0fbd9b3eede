-- A life as plain data: the columns of its decrement table, from the start of the contract on.
use Rattle.std.specs.Prelude.{◌≡◌, ⊤, ℕ, suc, ◌+◌, ◌≤◌, Bool, cond, List, [], ◌∷◌}
use Rattle.halo_sums.specs.Sums.{numbers_from, sum_over}

-- for how many years its table goes on, how many causes of decrement there are, the survivors (l)
-- at each time, and the leavers (d) in each year by each cause; times and years count from the
-- start of the contract
pub record PlainLife : Type 0 where
  pub years_left : ℕ
  pub causes : ℕ
  pub survivors : ℕ → ℕ
  pub leavers : ℕ → ℕ → ℕ

-- those who leave in year k by whichever cause: d_(x+k), the sum of d_(x+k) by each cause j
abbrev pub leavers_in : PlainLife → ℕ → ℕ
leavers_in x k = sum_over (numbers_from 0 x.causes) (x.leavers k)

-- those who leave in year k by one of some causes
abbrev pub leavers_by : (ℕ → Bool) → PlainLife → ℕ → ℕ
leavers_by causes x k = sum_over (numbers_from 0 x.causes) (λ j. cond (causes j) (x.leavers k j) 0)

-- the rule of a decrement table, l_(x+k) = d_(x+k) + l_(x+k+1): who is alive at a time leaves in
-- that year or is alive at the next; and nobody is alive after the last year, so that nobody leaves
-- after it
pub record IsLife (x : PlainLife) : Type 0 where
  pub falls : (k : ℕ) → x.survivors k ≡ leavers_in x k + x.survivors (suc k)
  pub ends : (k : ℕ) → x.years_left ≤ k → x.survivors k ≡ 0

-- each of some lives keeps the rule
abbrev pub AreLives : List PlainLife → Type 0
AreLives [] = ⊤
AreLives (x ∷ lives) = IsLife x × AreLives lives

-- a fact or a set about the lives after the first, counted from 0 again
abbrev pub after_first : {X : Type 0} → (ℕ → X) → ℕ → X
after_first of_life i = of_life (suc i)
