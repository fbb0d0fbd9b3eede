-- The coefficients of a product of two lives are those of a test, and so small.
use Rattle.std.proofs.Common.{◌≡◌, ◌<◌, arith, refl, ap, ◌∙◌, rules, List, [], ◌∷◌, Bool, true, false, ◌&&◌, ℤ, pos, ◌*ℤ◌}
use Rattle.halo_sums.specs.Sums.{indicator}
use Rattle.halo_sums.specs.Sets.{in_set}
use Rattle.halo_sums.specs.Coefficients.{coefficient}
use Rattle.halo_poly.specs.Poly.{EachOfSets, IsSmall, value_on}
use Rattle.halo_poly.proofs.Masks.{exponent-lt}
use Rattle.halo_sums.proofs.SameLength.{coefficient-cong}
use Rattle.halo_poly.proofs.Transforms.{test_small}
use Rattle.halo_poly.proofs.Values.{value_of_life}
use Rattle.halo_poly.proofs.tests.product.Goals as goal

both : (a b : Bool) → indicator a *ℤ indicator b ≡ indicator (a && b)
both true true = refl
both true false = refl
both false true = refl
both false false = refl

product_small : (p q : List ℤ) → p ≡ pos 0 ∷ pos 1 ∷ pos 0 ∷ pos 0 ∷ [] → q ≡ pos 0 ∷ pos 0 ∷ pos 1 ∷ pos 0 ∷ []
    → EachOfSets 4 (λ s. IsSmall (coefficient (λ u. value_on p u *ℤ value_on q u) s))
product_small p q e d n sets s l =
    let few : n < 13 = exponent-lt n 13 (omega (arith, sets)) in
    rw (coefficient-cong (λ u. value_on p u *ℤ value_on q u) (λ u. indicator (in_set u 0 && in_set u 1)) s (λ u _.
    ap (λ z. z *ℤ value_on q u) (value_of_life 4 0 p (omega arith) e u)
    ∙ ap (λ z. indicator (in_set u 0) *ℤ z) (value_of_life 4 1 q (omega arith) d u)
    ∙ both (in_set u 0) (in_set u 1)))
    (test_small (λ u. in_set u 0 && in_set u 1) s (omega (arith, l)))

pub times-requires : goal.times-requires
times-requires c = (search rules, product_small _ _ c.in_ok-first.ensures c.in_ok-second.ensures)
