-- Binomial coefficients.
use Rattle.std.specs.Prelude.{ℕ, zero, suc, ◌+◌}

-- in how many ways k of n things are chosen: the binomial coefficient, n over k
abbrev pub choose : ℕ → ℕ → ℕ
choose n zero = 1
choose zero (suc k) = 0
choose (suc n) (suc k) = choose n k + choose n (suc k)
