-- The chance that a status of independent lives exists, along its tree: life i is there with the
-- chance n i / d i. It is told without division, as a weight in a whole, and it is the chance only
-- of a status in which no life stands twice.
use Rattle.std.specs.Prelude.{ℕ, suc, ◌+◌, ◌-◌, ◌*◌, Bool, cond, nat_eq, nat_le}
use Rattle.halo_status.specs.Tree.{Tree, Trees, life, term, joint, last, at_least, exactly, after, none, more}

-- in which parts the chance of a status is told: the product over its lives, each as often as it
-- stands there
abbrev mutual
  pub whole_of : (ℕ → ℕ) → Tree → ℕ
  whole_of d (life i) = d i
  whole_of d (term m) = 1
  whole_of d (joint ms) = whole_in d ms
  whole_of d (last ms) = whole_in d ms
  whole_of d (at_least r ms) = whole_in d ms
  whole_of d (exactly r ms) = whole_in d ms
  whole_of d (after s t) = whole_of d t * whole_of d s

  -- and the chances of some members together
  pub whole_in : (ℕ → ℕ) → Trees → ℕ
  whole_in d none = 1
  whole_in d (more s ms) = whole_of d s * whole_in d ms

abbrev mutual
  -- of the whole, the weight with which a status exists where the terms of the set `on` are on
  -- p_(x:y) = p_x · p_y, and for the last survivor 1 - (1 - p_x) · (1 - p_y)
  pub weight_of : (ℕ → ℕ) → (ℕ → ℕ) → (ℕ → Bool) → Tree → ℕ
  weight_of n d on (life i) = n i
  weight_of n d on (term m) = cond (on m) 1 0
  weight_of n d on (joint ms) = weight_of_all n d on ms
  weight_of n d on (last ms) = whole_in d ms - weight_of_none n d on ms
  weight_of n d on (at_least r ms) = weight_of_count n d on (λ count. nat_le r count) ms
  weight_of n d on (exactly r ms) = weight_of_count n d on (λ count. nat_eq count r) ms
  weight_of n d on (after s t) = weight_of n d on t * (whole_of d s - weight_of n d on s)

  -- with which all of some members exist
  pub weight_of_all : (ℕ → ℕ) → (ℕ → ℕ) → (ℕ → Bool) → Trees → ℕ
  weight_of_all n d on none = 1
  weight_of_all n d on (more s ms) = weight_of n d on s * weight_of_all n d on ms

  -- with which none of them does
  pub weight_of_none : (ℕ → ℕ) → (ℕ → ℕ) → (ℕ → Bool) → Trees → ℕ
  weight_of_none n d on none = 1
  weight_of_none n d on (more s ms) = (whole_of d s - weight_of n d on s) * weight_of_none n d on ms

  -- with which the number of those that exist passes a test: with the first, the others have to be
  -- one fewer, and else they have to pass it themselves
  pub weight_of_count : (ℕ → ℕ) → (ℕ → ℕ) → (ℕ → Bool) → (ℕ → Bool) → Trees → ℕ
  weight_of_count n d on passes none = cond (passes 0) 1 0
  weight_of_count n d on passes (more s ms) =
      weight_of n d on s * weight_of_count n d on (λ count. passes (suc count)) ms
      + (whole_of d s - weight_of n d on s) * weight_of_count n d on passes ms
