-- Independent lives, each there with a chance of its own: life i with the chance n i / d i, told
-- without division.
use Rattle.std.specs.Prelude.{ℕ, zero, suc, Bool, true, false, cond, List, [], ◌∷◌, ℤ, pos, ◌-ℤ◌, ◌*ℤ◌}
use Rattle.halo_sums.specs.Sums.{indicator, int_sum_over}
use Rattle.halo_sums.specs.Sets.{in_set, sets}
use Rattle.halo_status.specs.Tree.{Tree}
use Rattle.halo_status.specs.Exists.{exists}
use Rattle.halo_model.specs.Life.{PlainLife, after_first}

-- the weight with which exactly the lives of a set are there, in the product of the wholes
abbrev pub set_weight : (ℕ → ℕ) → (ℕ → ℕ) → List Bool → ℤ
set_weight n d [] = pos 1
set_weight n d (true ∷ u) = pos (n 0) *ℤ set_weight (after_first n) (after_first d) u
set_weight n d (false ∷ u) =
    (pos (d 0) -ℤ pos (n 0)) *ℤ set_weight (after_first n) (after_first d) u

-- the weight with which a status exists: the sum over all sets of so many lives
abbrev pub existence_weight : ℕ → (ℕ → ℕ) → (ℕ → ℕ) → (ℕ → Bool) → Tree → ℤ
existence_weight count n d on s =
    int_sum_over (sets count) (λ u. set_weight n d u *ℤ indicator (exists (in_set u) on s))

-- the survivors of life i at the time `times i`, if it is one of some lives and alive at the start,
-- else 0
abbrev pub survivors_of : (ℕ → ℕ) → (ℕ → Bool) → List PlainLife → ℕ → ℕ
survivors_of times S [] i = 0
survivors_of times S (x ∷ lives) zero = cond (S 0) (x.survivors (times 0)) 0
survivors_of times S (x ∷ lives) (suc i) = survivors_of (after_first times) (after_first S) lives i

-- all of them who are alive at T, if it is one of the lives and alive then, else 1
abbrev pub started_of : ℕ → (ℕ → Bool) → List PlainLife → ℕ → ℕ
started_of T S [] i = 1
started_of T S (x ∷ lives) zero = cond (S 0) (x.survivors T) 1
started_of T S (x ∷ lives) (suc i) = started_of T (after_first S) lives i
