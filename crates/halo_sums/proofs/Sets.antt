-- Sums over all sets of some numbers, and over the subsets of a set.
use Rattle.std.proofs.Common.{◌≡◌, ℕ, suc, ap, ◌∙◌, List, ◌∷◌, ◌++◌, map, Bool, true, false, ℤ, ◌+ℤ◌}
use Rattle.halo_sums.specs.Sums.{int_sum_over}
use Rattle.halo_sums.specs.Sets.{sets, subsets}
use Rattle.halo_sums.proofs.IntSums.{int_sum_over-append, int_sum_over-map}

-- sets without 0 and with it
both-ways : (us : List (List Bool)) (f : List Bool → ℤ)
    → int_sum_over (map (λ u. false ∷ u) us ++ map (λ u. true ∷ u) us) f
    ≡ int_sum_over us (λ u. f (false ∷ u)) +ℤ int_sum_over us (λ u. f (true ∷ u))
both-ways us f = int_sum_over-append (map (λ u. false ∷ u) us) (map (λ u. true ∷ u) us) f
    ∙ ap (λ z. z +ℤ int_sum_over (map (λ u. true ∷ u) us) f) (int_sum_over-map (λ u. false ∷ u) us f)
    ∙ ap (λ z. int_sum_over us (λ u. f (false ∷ u)) +ℤ z) (int_sum_over-map (λ u. true ∷ u) us f)

pub int_sum_over-sets : (n : ℕ) (f : List Bool → ℤ)
    → int_sum_over (sets (suc n)) f ≡ int_sum_over (sets n) (λ u. f (false ∷ u)) +ℤ int_sum_over (sets n)
    (λ u. f (true ∷ u))
int_sum_over-sets n f = both-ways (sets n) f

pub int_sum_over-subsets_with : (s : List Bool) (f : List Bool → ℤ)
    → int_sum_over (subsets (true ∷ s)) f ≡ int_sum_over (subsets s) (λ u. f (false ∷ u)) +ℤ int_sum_over (subsets s)
    (λ u. f (true ∷ u))
int_sum_over-subsets_with s f = both-ways (subsets s) f

pub int_sum_over-subsets_without : (s : List Bool) (f : List Bool → ℤ)
    → int_sum_over (subsets (false ∷ s)) f ≡ int_sum_over (subsets s) (λ u. f (false ∷ u))
int_sum_over-subsets_without s f = int_sum_over-map (λ u. false ∷ u) (subsets s) f
