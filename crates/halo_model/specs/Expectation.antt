-- Sums over outcomes, and what they come to: chances that lives are there, and that one leaves.
use Rattle.std.specs.Prelude.{ℕ, zero, suc, ◌<◌, Bool, true, false, cond, ◌&&◌, nat_eq, nat_lt, List, [], ◌∷◌, set, Option, Some, None, ℤ, pos, ◌-ℤ◌, ◌*ℤ◌}
use Rattle.halo_sums.specs.Sums.{int_sum_over}
use Rattle.halo_model.specs.Life.{PlainLife, after_first, leavers_by}
use Rattle.halo_model.specs.Outcome.{Exit, Outcome, outcomes, weight}

-- the sum over the outcomes from T, with the lives of S alive, of weight times f: the expectation
-- of f times the joint survivors
abbrev pub expected : ℕ → (ℕ → Bool) → List PlainLife → (Outcome → ℤ) → ℤ
expected T S lives f = int_sum_over (outcomes T S lives) (λ o. pos (weight lives o) *ℤ f o)

-- the survivors of a life at time t, if it is alive at T, else 0
-- ₜp_x = l_(x+t) / l_x, from the start
abbrev pub survivors_if : Bool → PlainLife → ℕ → ℤ
survivors_if alive x t = cond alive (pos (x.survivors t)) (pos 0)

-- those who leave before time t, if it is alive at T, else 1
abbrev pub gone_if : Bool → PlainLife → ℕ → ℕ → ℤ
gone_if alive x T t = cond alive (pos (x.survivors T) -ℤ pos (x.survivors t)) (pos 1)

-- all who are alive at T, if it is alive then, else 1
abbrev pub whole_if : Bool → PlainLife → ℕ → ℤ
whole_if alive x T = cond alive (pos (x.survivors T)) (pos 1)

-- the weight of the outcomes in which exactly the lives of a set are there, each life i at the time
-- `times i`
abbrev pub exactly_there : (ℕ → ℕ) → ℕ → (ℕ → Bool) → List PlainLife → List Bool → ℤ
exactly_there times T S [] u = pos 1
exactly_there times T S (x ∷ lives) [] = pos 1
exactly_there times T S (x ∷ lives) (true ∷ u) =
    survivors_if (S 0) x (times 0) *ℤ exactly_there (after_first times) T (after_first S) lives u
exactly_there times T S (x ∷ lives) (false ∷ u) =
    gone_if (S 0) x T (times 0) *ℤ exactly_there (after_first times) T (after_first S) lives u

-- the weight of the outcomes in which at least the lives of a set are there
abbrev pub all_there : (ℕ → ℕ) → ℕ → (ℕ → Bool) → List PlainLife → List Bool → ℤ
all_there times T S [] s = pos 1
all_there times T S (x ∷ lives) [] = pos 1
all_there times T S (x ∷ lives) (true ∷ s) =
    survivors_if (S 0) x (times 0) *ℤ all_there (after_first times) T (after_first S) lives s
all_there times T S (x ∷ lives) (false ∷ s) =
    whole_if (S 0) x T *ℤ all_there (after_first times) T (after_first S) lives s

-- the weight of those in which life a leaves in year k by one of some causes and at least the
-- others of a set are there; 0 for a set without a
abbrev pub all_there_at_leaving :
    ℕ → (ℕ → Bool) → ℕ → (ℕ → ℕ) → ℕ → (ℕ → Bool) → List PlainLife → List Bool → ℤ
all_there_at_leaving a causes k times T S [] s = pos 1
all_there_at_leaving a causes k times T S (x ∷ lives) [] = pos 1
all_there_at_leaving zero causes k times T S (x ∷ lives) (true ∷ s) =
    pos (leavers_by causes x k) *ℤ all_there (after_first times) T (after_first S) lives s
all_there_at_leaving zero causes k times T S (x ∷ lives) (false ∷ s) =
    pos 0 *ℤ all_there (after_first times) T (after_first S) lives s
all_there_at_leaving (suc a) causes k times T S (x ∷ lives) (true ∷ s) =
    survivors_if (S 0) x (times 0)
    *ℤ all_there_at_leaving a causes k (after_first times) T (after_first S) lives s
all_there_at_leaving (suc a) causes k times T S (x ∷ lives) (false ∷ s) =
    whole_if (S 0) x T
    *ℤ all_there_at_leaving a causes k (after_first times) T (after_first S) lives s

-- whether a life leaves in year k by one of some causes
abbrev pub leaves_in : (ℕ → Bool) → ℕ → Option Exit → Bool
leaves_in causes k None = false
leaves_in causes k (Some exit) = nat_eq exit.year k && causes exit.cause

-- when the other lives are looked at where life a leaves in year k: at k + 1 those that come before
-- it, and at k the others
abbrev pub looked_at : (ℕ → ℕ) → ℕ → ℕ → ℕ → ℕ
looked_at rank a k i = cond (nat_lt (rank i) (rank a)) (suc k) k

-- the derivative of f in life a at a set: f with a less f without it
abbrev pub derivative : (List Bool → ℤ) → ℕ → List Bool → ℤ
derivative f a u = f (set u a true) -ℤ f (set u a false)

-- life a is one of the lives, and its table has year k
abbrev pub HasYear : ℕ → ℕ → List PlainLife → Type 0
HasYear a k [] = ⊥
HasYear zero k (x ∷ lives) = k < x.years_left
HasYear (suc a) k (x ∷ lives) = HasYear a k lives
