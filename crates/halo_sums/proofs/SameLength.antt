-- Sums over subsets and coefficients depend on nothing but the sets of as many numbers.
use Rattle.std.proofs.Common.{◌≡◌, suc, arith, refl, ap, sym, ◌∙◌, List, [], ◌∷◌, length, Bool, true, false, ℤ, pos, ◌+ℤ◌}
use Rattle.std.proofs.lemmas.Int.{ints}
use Rattle.halo_sums.specs.Sums.{int_sum_over}
use Rattle.halo_sums.specs.Sets.{subsets}
use Rattle.halo_sums.specs.Coefficients.{coefficient}
use Rattle.halo_sums.proofs.Sets.{int_sum_over-subsets_with, int_sum_over-subsets_without}
use Rattle.halo_sums.proofs.Coefficients.{coefficient-empty, coefficient-with, coefficient-without}

pub sum-cong : (s : List Bool) (f g : List Bool → ℤ) → ((u : List Bool) → length u ≡ length s → f u ≡ g u)
    → int_sum_over (subsets s) f ≡ int_sum_over (subsets s) g
sum-cong [] f g h = ap (λ z. z +ℤ pos 0) (h [] refl)
sum-cong (false ∷ s) f g h =
    int_sum_over-subsets_without s f
    ∙ sum-cong s (λ u. f (false ∷ u)) (λ u. g (false ∷ u)) (λ u e. h (false ∷ u) (ap suc e))
    ∙ sym (int_sum_over-subsets_without s g)
sum-cong (true ∷ s) f g h = omega (
  arith,
  ints,
  int_sum_over-subsets_with s f,
  int_sum_over-subsets_with s g,
  sum-cong s (λ u. f (false ∷ u)) (λ u. g (false ∷ u)) (λ u e. h (false ∷ u) (ap suc e)),
  sum-cong s (λ u. f (true ∷ u)) (λ u. g (true ∷ u)) (λ u e. h (true ∷ u) (ap suc e)),
)

pub coefficient-cong : (f g : List Bool → ℤ) (s : List Bool) → ((u : List Bool) → length u ≡ length s → f u ≡ g u)
    → coefficient f s ≡ coefficient g s
coefficient-cong f g [] h = omega (arith, ints, coefficient-empty f, coefficient-empty g, h [] refl)
coefficient-cong f g (false ∷ s) h = omega (
  arith,
  ints,
  coefficient-without f s,
  coefficient-without g s,
  coefficient-cong (λ u. f (false ∷ u)) (λ u. g (false ∷ u)) s (λ u e. h (false ∷ u) (ap suc e)),
)
coefficient-cong f g (true ∷ s) h = omega (
  arith,
  ints,
  coefficient-with f s,
  coefficient-with g s,
  coefficient-cong (λ u. f (false ∷ u)) (λ u. g (false ∷ u)) s (λ u e. h (false ∷ u) (ap suc e)),
  coefficient-cong (λ u. f (true ∷ u)) (λ u. g (true ∷ u)) s (λ u e. h (true ∷ u) (ap suc e)),
)
