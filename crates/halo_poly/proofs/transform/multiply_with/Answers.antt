-- On each set there is the product of the two values, which the coefficients keep small.
use Rattle.std.proofs.Common.{◌≡◌, ℕ, ◌<◌, ◌≤◌, ◌^◌, arith, ap, ◌∙◌, Bool, List, length, ℤ, ◌*ℤ◌, w64, FitsSigned}
use Rattle.halo_sums.specs.Masks.{bits}
use Rattle.halo_sums.specs.Coefficients.{coefficient}
use Rattle.halo_sums.specs.SetMasks.{mask_of}
use Rattle.halo_poly.specs.Poly.{IsSmall, coefficient_at, coefficient_of, value_on}
use Rattle.halo_sums.proofs.SetMasks.{length-bits, mask_of-bits}
use Rattle.halo_sums.proofs.SameLength.{coefficient-cong}
use Rattle.halo_poly.proofs.Transforms.{value_fits}
use Rattle.halo_poly.proofs.transform.multiply_with.Goals as goal

-- the values of the two factors, and their product, at a place
at_product : (n : ℕ) (left right first second : List ℤ)
    → ((s : List Bool) → length s ≡ n → coefficient_of first s ≡ value_on left s)
    → ((s : List Bool) → length s ≡ n → coefficient_of second s ≡ value_on right s)
    → (s : List Bool) → length s ≡ n
    → coefficient_of first s *ℤ coefficient_of second s ≡ value_on left s *ℤ value_on right s
at_product n left right first second at_first at_second s e =
    ap (λ z. z *ℤ coefficient_of second s) (at_first s e) ∙ ap (λ z. value_on left s *ℤ z) (at_second s e)

-- it fits
product_fits : (n : ℕ) (left right first second : List ℤ)
    → ((s : List Bool) → length s ≡ n → coefficient_of first s ≡ value_on left s)
    → ((s : List Bool) → length s ≡ n → coefficient_of second s ≡ value_on right s)
    → n ≤ 12 → ((s : List Bool) → length s ≡ n → IsSmall (coefficient (λ u. value_on left u *ℤ value_on right u) s))
    → (k : ℕ) → k < 2 ^ n → FitsSigned w64 (coefficient_at first k *ℤ coefficient_at second k)
product_fits n left right first second at_first at_second few small k h =
    let s : List Bool = bits n k in
    let l : length s ≡ n = length-bits n k in
    let e : mask_of s ≡ k = mask_of-bits n k h in
    let f : FitsSigned w64 (coefficient_of first s *ℤ coefficient_of second s) =
    rw (at_product n left right first second at_first at_second s l)
    (value_fits n (λ u. value_on left u *ℤ value_on right u) few small s l) in
    rw e at f

-- and where the products are, the coefficients are those of the product
product_coefficient : (n : ℕ) (left right products : List ℤ)
    → ((s : List Bool) → length s ≡ n → coefficient_of products s ≡ value_on left s *ℤ value_on right s)
    → (s : List Bool) → length s ≡ n
    → coefficient (coefficient_of products) s ≡ coefficient (λ u. value_on left u *ℤ value_on right u) s
product_coefficient n left right products each s l =
    coefficient-cong (coefficient_of products) (λ u. value_on left u *ℤ value_on right u) s (λ u e. each u (e ∙ l))

pub multiply_each-requires-clause-fits : goal.multiply_each-requires-clause-fits
multiply_each-requires-clause-fits c =
    let at_first = rw c.copy_from_slice.ensures.after at c.zeta.ensures.values in
    let at_second = rw c.copy_from_slice-2.ensures.after at c.zeta-2.ensures.values in
    λ k h.
    product_fits c.args.lives c.args.left.now c.args.right.now c.zeta.new.values c.zeta-2.new.values at_first
    at_second c.requires.few c.requires.small k
    (omega (arith, c.requires.full, c.zeta.ensures.length, c.copy_from_slice.ensures.len))

pub moebius-requires-clause-small : goal.moebius-requires-clause-small
moebius-requires-clause-small c =
    let at_first = rw c.copy_from_slice.ensures.after at c.zeta.ensures.values in
    let at_second = rw c.copy_from_slice-2.ensures.after at c.zeta-2.ensures.values in
    λ s l.
    rw (product_coefficient c.args.lives c.args.left.now c.args.right.now c.multiply_each.new.values
    (λ u e.
    c.multiply_each.ensures.products (mask_of u)
    ∙ at_product c.args.lives c.args.left.now c.args.right.now c.zeta.new.values c.zeta-2.new.values at_first
    at_second u e)
    s l)
    (c.requires.small s l)

pub returns-clause-coefficients : goal.returns-clause-coefficients
returns-clause-coefficients c =
    let at_first = rw c.copy_from_slice.ensures.after at c.zeta.ensures.values in
    let at_second = rw c.copy_from_slice-2.ensures.after at c.zeta-2.ensures.values in
    λ s l.
    c.moebius.ensures.coefficients s l
    ∙ product_coefficient c.args.lives c.args.left.now c.args.right.now c.multiply_each.new.values
    (λ u e.
    c.multiply_each.ensures.products (mask_of u)
    ∙ at_product c.args.lives c.args.left.now c.args.right.now c.zeta.new.values c.zeta-2.new.values at_first
    at_second u e)
    s l
