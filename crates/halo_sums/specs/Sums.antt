-- Sums and products over lists.
use Rattle.std.specs.Prelude.{ℕ, zero, suc, ◌+◌, ◌*◌, Bool, true, false, cond, List, [], ◌∷◌, ℤ, pos, ◌+ℤ◌}

-- the sum of f over a list
abbrev pub sum_over : {X : Type 0} → List X → (X → ℕ) → ℕ
sum_over [] f = 0
sum_over (x ∷ xs) f = f x + sum_over xs f

-- the product of f over a list
abbrev pub product_over : {X : Type 0} → List X → (X → ℕ) → ℕ
product_over [] f = 1
product_over (x ∷ xs) f = f x * product_over xs f

-- the sum over a list of an f that may be negative
abbrev pub int_sum_over : {X : Type 0} → List X → (X → ℤ) → ℤ
int_sum_over [] f = pos 0
int_sum_over (x ∷ xs) f = f x +ℤ int_sum_over xs f

-- so many numbers from a first one on
abbrev pub numbers_from : ℕ → ℕ → List ℕ
numbers_from first zero = []
numbers_from first (suc count) = first ∷ numbers_from (suc first) count

-- how many of a list are true
abbrev pub count_true : List Bool → ℕ
count_true [] = 0
count_true (true ∷ bs) = suc (count_true bs)
count_true (false ∷ bs) = count_true bs

-- 1 where something holds, else 0
abbrev pub indicator : Bool → ℤ
indicator holds = cond holds (pos 1) (pos 0)
