-- Coefficients of values that are numbers of a row are small.
use Rattle.std.proofs.Common.{◌≡◌, ℕ, ◌*◌, ◌^◌, ◌<◌, ◌≤◌, arith, ◌∙◌, List, [], ◌∷◌, length, get_or, Bool, true, false, ℤ, pos, unsigned_abs}
use Rattle.std.proofs.Math.Nat.{pow-le-pow_right}
use Rattle.std.proofs.lemmas.Nat.{mul-le}
use Rattle.halo_sums.specs.Coefficients.{coefficient}
use Rattle.halo_sums.proofs.Coefficients.{coefficient-empty, coefficient-with, coefficient-without}
use Rattle.halo_sums.specs.SetMasks.{mask_of}
use Rattle.halo_poly.specs.Poly.{IsSmall, coefficient_at, coefficient_of}
use Rattle.halo_sums.proofs.SetMasks.{mask_of-lt}
use Rattle.halo_poly.proofs.Masks.{two_positive}
use Rattle.halo_sums.proofs.SameLength.{coefficient-cong}
use Rattle.halo_poly.proofs.Transforms.{abs-sub, doubled}

-- a coefficient of n lives is at most 2^n times as large as the values
coefficient_bounded : (f : List Bool → ℤ) (c : ℕ) (s : List Bool) → ((u : List Bool) → unsigned_abs (f u) ≤ c)
    → unsigned_abs (coefficient f s) ≤ 2 ^ length s * c
coefficient_bounded f c [] h = rw (coefficient-empty f) (omega (arith, h []))
coefficient_bounded f c (false ∷ s) h =
    rw (coefficient-without f s)
    (omega (arith, doubled (length s) c, coefficient_bounded (λ u. f (false ∷ u)) c s (λ u. h (false ∷ u))))
coefficient_bounded f c (true ∷ s) h = rw (coefficient-with f s) (omega (
  arith,
  doubled (length s) c,
  abs-sub (coefficient (λ u. f (true ∷ u)) s) (coefficient (λ u. f (false ∷ u)) s),
  coefficient_bounded (λ u. f (true ∷ u)) c s (λ u. h (true ∷ u)),
  coefficient_bounded (λ u. f (false ∷ u)) c s (λ u. h (false ∷ u)),
))

same_number : 2 ^ 16 ≤ 2 ^ 16
same_number = omega arith

module _ (n : ℕ) (row counts : List ℕ) where
  pub numbers_told : (values : List ℤ) → length counts ≡ 2 ^ n
      → ((k : ℕ) → k < length counts → coefficient_at values k ≡ pos (get_or row (get_or counts k 0) 0))
      → (s : List Bool) → length s ≡ n
      → coefficient (coefficient_of values) s ≡ coefficient (λ u. pos (get_or row (get_or counts (mask_of u) 0) 0)) s
  numbers_told values full each s l =
      coefficient-cong (coefficient_of values) (λ u. pos (get_or row (get_or counts (mask_of u) 0) 0)) s
      (λ u e. let same : length u ≡ n =
      e ∙ l in let bound : mask_of u < 2 ^ n =
      rw same at (mask_of-lt u) in each (mask_of u) (omega (arith, bound, full)))

  pub numbers_small : ((c : ℕ) → get_or row c 0 ≤ 2 ^ 16) → n ≤ 12 → (s : List Bool) → length s ≡ n
      → IsSmall (coefficient (λ u. pos (get_or row (get_or counts (mask_of u) 0) 0)) s)
  numbers_small small few s l =
      let short : length s ≤ 12 = omega (arith, few, l) in
      let p : 2 ^ length s ≤ 2 ^ 12 = pow-le-pow_right two_positive short in
      omega (
        arith,
        coefficient_bounded (λ u. pos (get_or row (get_or counts (mask_of u) 0) 0)) (2 ^ 16) s
            (λ u. small (get_or counts (mask_of u) 0)),
        mul-le (2 ^ length s) (2 ^ 16) (2 ^ 12) (2 ^ 16) p same_number,
      )
