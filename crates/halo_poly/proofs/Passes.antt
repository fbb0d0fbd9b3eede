-- Sums over subsets and coefficients, life by life: one pass over all sets for each life.
use Rattle.std.proofs.Common.{◌≡◌, ℕ, zero, suc, arith, refl, ap, sym, ◌∙◌, List, [], ◌∷◌, length, set, Bool, true, false, cond, ℤ, pos, ◌+ℤ◌, ◌-ℤ◌}
use Rattle.std.proofs.lemmas.Int.{ints}
use Rattle.halo_sums.specs.Sums.{int_sum_over}
use Rattle.halo_sums.specs.Sets.{in_set, subsets}
use Rattle.halo_sums.specs.Coefficients.{coefficient}
use Rattle.halo_sums.proofs.IntSums.{int_sum_over-add, int_sum_over-ext}
use Rattle.halo_sums.proofs.Sets.{int_sum_over-subsets_with, int_sum_over-subsets_without}
use Rattle.halo_sums.proofs.Coefficients.{coefficient-empty, coefficient-sub, coefficient-with, coefficient-without}
use Rattle.halo_sums.proofs.SameLength.{coefficient-cong}

-- a pass for one life: to each set with the life is added what there is at the set without it
abbrev pub sum_pass : ℕ → (List Bool → ℤ) → List Bool → ℤ
sum_pass life f s = f s +ℤ cond (in_set s life) (f (set s life false)) (pos 0)

-- the passes for some lives, from life 0 on
abbrev pub sum_passes : ℕ → (List Bool → ℤ) → List Bool → ℤ
sum_passes zero f = f
sum_passes (suc life) f = sum_pass life (sum_passes life f)

-- and those that take away what a pass adds
abbrev pub difference_pass : ℕ → (List Bool → ℤ) → List Bool → ℤ
difference_pass life f s = f s -ℤ cond (in_set s life) (f (set s life false)) (pos 0)

abbrev pub difference_passes : ℕ → (List Bool → ℤ) → List Bool → ℤ
difference_passes zero f = f
difference_passes (suc life) f = difference_pass life (difference_passes life f)

-- the pass for life 0 may come first
first_sum : (n : ℕ) (f : List Bool → ℤ) (b : Bool) (s : List Bool)
    → sum_passes (suc n) f (b ∷ s) ≡ sum_passes n (λ u. f (b ∷ u) +ℤ cond b (f (false ∷ u)) (pos 0)) s
first_sum zero f b s = refl
first_sum (suc n) f b s =
    ap (λ z. z +ℤ cond (in_set s n) (sum_passes (suc n) f (b ∷ set s n false)) (pos 0)) (first_sum n f b s)
    ∙ ap (λ z. sum_passes n (λ u. f (b ∷ u) +ℤ cond b (f (false ∷ u)) (pos 0)) s +ℤ cond (in_set s n) z (pos 0))
    (first_sum n f b (set s n false))

first_difference : (n : ℕ) (f : List Bool → ℤ) (b : Bool) (s : List Bool)
    → difference_passes (suc n) f (b ∷ s) ≡ difference_passes n (λ u. f (b ∷ u) -ℤ cond b (f (false ∷ u)) (pos 0)) s
first_difference zero f b s = refl
first_difference (suc n) f b s =
    ap (λ z. z -ℤ cond (in_set s n) (difference_passes (suc n) f (b ∷ set s n false)) (pos 0))
    (first_difference n f b s)
    ∙ ap (λ z. difference_passes n (λ u. f (b ∷ u) -ℤ cond b (f (false ∷ u)) (pos 0)) s -ℤ cond (in_set s n) z (pos 0))
    (first_difference n f b (set s n false))

-- after the passes for all lives of a set there is the sum over its subsets
pub sum_passes-all : (s : List Bool) (f : List Bool → ℤ) → sum_passes (length s) f s ≡ int_sum_over (subsets s) f
sum_passes-all [] f = omega (arith, ints)
sum_passes-all (false ∷ s) f = omega (
  arith,
  ints,
  first_sum (length s) f false s,
  sum_passes-all s (λ u. f (false ∷ u) +ℤ pos 0),
  int_sum_over-ext (subsets s) (λ u. f (false ∷ u) +ℤ pos 0) (λ u. f (false ∷ u)) (λ u. omega (arith, ints)),
  int_sum_over-subsets_without s f,
)
sum_passes-all (true ∷ s) f = omega (
  arith,
  ints,
  first_sum (length s) f true s,
  sum_passes-all s (λ u. f (true ∷ u) +ℤ f (false ∷ u)),
  int_sum_over-add (subsets s) (λ u. f (true ∷ u)) (λ u. f (false ∷ u)),
  int_sum_over-subsets_with s f,
)

-- and after those that take away, the coefficient
pub difference_passes-all : (s : List Bool) (f : List Bool → ℤ) → difference_passes (length s) f s ≡ coefficient f s
difference_passes-all [] f = sym (coefficient-empty f)
difference_passes-all (false ∷ s) f = first_difference (length s) f false s
    ∙ difference_passes-all s (λ u. f (false ∷ u) -ℤ pos 0)
    ∙ coefficient-cong _ (λ u. f (false ∷ u)) s (λ u _. omega (arith, ints))
    ∙ sym (coefficient-without f s)
difference_passes-all (true ∷ s) f = first_difference (length s) f true s
    ∙ difference_passes-all s (λ u. f (true ∷ u) -ℤ f (false ∷ u))
    ∙ coefficient-sub (λ u. f (true ∷ u)) (λ u. f (false ∷ u)) s
    ∙ sym (coefficient-with f s)
