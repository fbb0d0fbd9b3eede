-- Symmetric sums of statuses are binomial coefficients, whose alternating sums pick out one number.
use Rattle.std.proofs.Common.{◌≡◌, ℕ, zero, suc, arith, refl, ap, ◌∙◌, List, [], ◌∷◌, map, Bool, true, false, ℤ, pos, ◌+ℤ◌, ◌*ℤ◌}
use Rattle.std.proofs.lemmas.Int.{ints}
use Rattle.halo_sums.specs.Sums.{count_true, indicator}
use Rattle.halo_sums.proofs.Choices.{choose-zero}
use Rattle.halo_sums.proofs.IntSums.{int_sum_over-append, int_sum_over-map, int_sum_over-scale}
use Rattle.halo_sums.specs.Choices.{choose}
use Rattle.halo_poly.specs.Symmetric.{parts_of, product_of, symmetric_sum}

-- a number more on the list is in some parts, and not in the others
symmetric-more : (j : ℕ) (z : ℤ) (zs : List ℤ)
    → symmetric_sum (suc j) (z ∷ zs) ≡ z *ℤ symmetric_sum j zs +ℤ symmetric_sum (suc j) zs
symmetric-more j z zs = int_sum_over-append (map (λ part. z ∷ part) (parts_of j zs)) (parts_of (suc j) zs) product_of
    ∙ ap (λ y. y +ℤ symmetric_sum (suc j) zs)
    (int_sum_over-map (λ part. z ∷ part) (parts_of j zs) product_of ∙ int_sum_over-scale (parts_of j zs) z product_of)

one_times : (z : ℤ) → pos 1 *ℤ z ≡ z
one_times z = omega (arith, ints)

none_times : (z : ℤ) → pos 0 *ℤ z ≡ pos 0
none_times z = omega (arith, ints)

choose-none : (k : ℕ) → choose 0 (suc k) ≡ 0
choose-none k = refl

-- so many of the parts exist whole
pub symmetric-counts : (j : ℕ) (bs : List Bool) → symmetric_sum j (map indicator bs) ≡ pos (choose (count_true bs) j)
symmetric-counts zero bs = omega (arith, ints, choose-zero (count_true bs))
symmetric-counts (suc j) [] = refl
symmetric-counts (suc j) (true ∷ bs) = symmetric-more j (pos 1) (map indicator bs)
    ∙ ap (λ y. y +ℤ symmetric_sum (suc j) (map indicator bs)) (one_times (symmetric_sum j (map indicator bs)))
    ∙ omega (arith, ints, symmetric-counts j bs, symmetric-counts (suc j) bs)
symmetric-counts (suc j) (false ∷ bs) = symmetric-more j (pos 0) (map indicator bs)
    ∙ ap (λ y. y +ℤ symmetric_sum (suc j) (map indicator bs)) (none_times (symmetric_sum j (map indicator bs)))
    ∙ omega (arith, ints, symmetric-counts (suc j) bs)
