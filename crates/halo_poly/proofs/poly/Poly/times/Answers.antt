-- The product is written back whole.
use Rattle.std.proofs.Common.{◌≡◌, ℕ, arith, sym, ◌∙◌, List, Bool, length, ℤ, ◌*ℤ◌}
use Rattle.halo_sums.specs.Coefficients.{coefficient}
use Rattle.halo_poly.specs.Poly.{IsSmall, coefficient_of, value_on}
use Rattle.halo_poly.proofs.Masks.{same_exponent}
use Rattle.halo_poly.proofs.Transforms.{is_poly, values_of, written}
use Rattle.halo_poly.proofs.poly.Poly.times.Goals as goal

-- the same of equal factors
small_product : (n : ℕ) (left right first second : List ℤ) → first ≡ left → second ≡ right
    → ((s : List Bool) → length s ≡ n → IsSmall (coefficient (λ u. value_on left u *ℤ value_on right u) s))
    → (s : List Bool) → length s ≡ n → IsSmall (coefficient (λ u. value_on first u *ℤ value_on second u) s)
small_product n left right first second e d h = rw (e, d) h

product_at : (n : ℕ) (left right first second into : List ℤ) → first ≡ left → second ≡ right
    → ((s : List Bool) → length s ≡ n
    → coefficient_of into s ≡ coefficient (λ u. value_on first u *ℤ value_on second u) s)
    → (s : List Bool) → length s ≡ n → coefficient_of into s ≡ coefficient (λ u. value_on left u *ℤ value_on right u) s
product_at n left right first second into e d h = rw (← e, ← d) h

pub multiply-requires-clause-small : goal.multiply-requires-clause-small
multiply-requires-clause-small g c = λ s l.
    small_product c.lives.result c.args.self.now c.args.o.now _ _ (c.deref.ensures.value ∙ c.self.view_is)
    (c.deref-2.ensures.value ∙ c.o.view_is) (c.requires c.lives.result c.lives.ensures.sets) s l

pub invariant_of-into : goal.invariant_of-into
invariant_of-into g c =
    let room : length c.multiply.new.into ≡ c.into.inside.coefficients.len = omega arith in
    let full : length c.multiply.new.into ≡ g.row.M = omega (arith, c.into.invariant.full) in
    let at =
    product_at c.lives.result c.args.self.now c.args.o.now _ _ c.multiply.new.into
    (c.deref.ensures.value ∙ c.self.view_is) (c.deref-2.ensures.value ∙ c.o.view_is)
    c.multiply.ensures.coefficients in
    rw (written c.into.inside.coefficients.len c.multiply.new.into c.into.inside.coefficients.items room)
    (is_poly g.row.M c.lives.result c.multiply.new.into c.into.invariant.sets c.lives.ensures.sets full
    (λ s l. rw (at s l) (c.requires c.lives.result c.lives.ensures.sets s l)))

pub returns-clause-coefficients : goal.returns-clause-coefficients
returns-clause-coefficients g c =
    let room : length c.multiply.new.into ≡ c.into.inside.coefficients.len = omega arith in
    let at =
    product_at c.lives.result c.args.self.now c.args.o.now _ _ c.multiply.new.into
    (c.deref.ensures.value ∙ c.self.view_is) (c.deref-2.ensures.value ∙ c.o.view_is)
    c.multiply.ensures.coefficients in
    λ n e s l.
    let same : n ≡ c.lives.result = same_exponent n c.lives.result (sym e ∙ c.lives.ensures.sets) in
    rw (written c.into.inside.coefficients.len c.multiply.new.into c.into.inside.coefficients.items room)
    (at s (l ∙ same))

pub returns-clause-values : goal.returns-clause-values
returns-clause-values g c =
    let room : length c.multiply.new.into ≡ c.into.inside.coefficients.len = omega arith in
    let at =
    product_at c.lives.result c.args.self.now c.args.o.now _ _ c.multiply.new.into
    (c.deref.ensures.value ∙ c.self.view_is) (c.deref-2.ensures.value ∙ c.o.view_is)
    c.multiply.ensures.coefficients in
    λ n e s l.
    let same : n ≡ c.lives.result = same_exponent n c.lives.result (sym e ∙ c.lives.ensures.sets) in
    rw (written c.into.inside.coefficients.len c.multiply.new.into c.into.inside.coefficients.items room)
    (values_of c.lives.result (λ u. value_on c.args.self.now u *ℤ value_on c.args.o.now u) c.multiply.new.into at s
    (l ∙ same))
