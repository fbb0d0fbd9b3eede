-- Binomial coefficients at their ends, by one thing less, and at most.
use Rattle.std.proofs.Common.{◌≡◌, ℕ, zero, suc, ◌+◌, ◌-◌, ◌^◌, ◌<◌, ◌≤◌, arith, refl, ap, ◌∙◌}
use Rattle.std.proofs.Math.Nat.{pow-suc}
use Rattle.std.proofs.lemmas.Nat.{pow_pos}
use Rattle.halo_sums.specs.Choices.{choose}

-- nothing is chosen in one way
pub choose-zero : (n : ℕ) → choose n 0 ≡ 1
choose-zero zero = refl
choose-zero (suc n) = refl

-- no more than there are can be chosen
pub choose-past : (n k : ℕ) → n < k → choose n k ≡ 0
choose-past n zero h = absurd (omega arith)
choose-past zero (suc k) h = refl
choose-past (suc n) (suc k) h = omega (arith, choose-past n k (omega arith), choose-past n (suc k) (omega arith))

-- the choices with one of the things, and those without it
pub choose-step : (n k : ℕ) → 1 ≤ n → 1 ≤ k → choose (n - 1) (k - 1) + choose (n - 1) k ≡ choose n k
choose-step zero k h g = absurd (omega arith)
choose-step (suc n) zero h g = absurd (omega arith)
choose-step (suc n) (suc k) h g =
    let a : suc n - 1 ≡ n = omega arith in
    let b : suc k - 1 ≡ k = omega arith in
    ap (λ m. choose m (suc k - 1) + choose m (suc k)) a ∙ ap (λ m. choose n m + choose n (suc k)) b

-- n things have 2^n parts
pub choose-le : (n k : ℕ) → choose n k ≤ 2 ^ n
choose-le zero zero = omega arith
choose-le (suc n) zero = omega (arith, pow_pos (suc n))
choose-le zero (suc k) = omega arith
choose-le (suc n) (suc k) = omega (arith, pow-suc 2 n, choose-le n k, choose-le n (suc k))
