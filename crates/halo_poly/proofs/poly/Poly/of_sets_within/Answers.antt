-- The coefficients are written back whole, and the number of lives is told by the number of sets.
use Rattle.std.proofs.Common.{◌≡◌, arith, sym, ◌∙◌, List, length, ℤ}
use Rattle.halo_sums.specs.Sums.{indicator}
use Rattle.halo_poly.specs.Poly.{is_marked_within}
use Rattle.halo_poly.proofs.Masks.{same_exponent}
use Rattle.halo_poly.proofs.Transforms.{is_poly, values_of, written}
use Rattle.halo_poly.proofs.poly.Poly.of_sets_within.Goals as goal

pub invariant_of-poly : goal.invariant_of-poly
invariant_of-poly g c =
    let made : List ℤ = c.moebius_of_marks_within.new.values in
    let room : length made ≡ c.poly.inside.coefficients.len = omega arith in
    let full : length made ≡ g.row.M = omega (arith, c.poly.invariant.full) in
    rw (written c.poly.inside.coefficients.len made c.poly.inside.coefficients.items room)
    (is_poly g.row.M c.lives.result made c.requires.sets c.lives.ensures.sets full
    c.moebius_of_marks_within.ensures.small)

pub returns-clause-full : goal.returns-clause-full
returns-clause-full g c =
    let made : List ℤ = c.moebius_of_marks_within.new.values in
    let room : length made ≡ c.poly.inside.coefficients.len = omega arith in
    let full : length made ≡ g.row.M = omega (arith, c.poly.invariant.full) in
    rw (written c.poly.inside.coefficients.len made c.poly.inside.coefficients.items room) full

pub returns-clause-coefficients : goal.returns-clause-coefficients
returns-clause-coefficients g c =
    let made : List ℤ = c.moebius_of_marks_within.new.values in
    let room : length made ≡ c.poly.inside.coefficients.len = omega arith in
    λ n e s l.
    let same : n ≡ c.lives.result = same_exponent n c.lives.result (sym e ∙ c.lives.ensures.sets) in
    rw (written c.poly.inside.coefficients.len made c.poly.inside.coefficients.items room)
    (c.moebius_of_marks_within.ensures.coefficients s (l ∙ same))

pub returns-clause-values : goal.returns-clause-values
returns-clause-values g c =
    let made : List ℤ = c.moebius_of_marks_within.new.values in
    let room : length made ≡ c.poly.inside.coefficients.len = omega arith in
    λ n e s l.
    let same : n ≡ c.lives.result = same_exponent n c.lives.result (sym e ∙ c.lives.ensures.sets) in
    rw (written c.poly.inside.coefficients.len made c.poly.inside.coefficients.items room)
    (values_of c.lives.result (λ u. indicator (is_marked_within c.args.marked.now c.args.named u)) made
    c.moebius_of_marks_within.ensures.coefficients s (l ∙ same))
