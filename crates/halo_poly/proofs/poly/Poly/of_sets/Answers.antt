-- The coefficients are written back whole, and the number of lives is told by the number of sets.
use Rattle.std.proofs.Common.{◌≡◌, arith, sym, ◌∙◌, length, false, get_or}
use Rattle.halo_sums.specs.Sums.{indicator}
use Rattle.halo_sums.specs.SetMasks.{mask_of}
use Rattle.halo_poly.proofs.Masks.{same_exponent}
use Rattle.halo_poly.proofs.Transforms.{is_poly, values_of, written}
use Rattle.halo_poly.proofs.poly.Poly.of_sets.Goals as goal

pub invariant_of-poly : goal.invariant_of-poly
invariant_of-poly g c =
    let room : length c.moebius_of_marks.new.values ≡ c.poly.inside.coefficients.len = omega arith in
    let full : length c.moebius_of_marks.new.values ≡ g.row.M = omega (arith, c.poly.invariant.full) in
    rw (written c.poly.inside.coefficients.len c.moebius_of_marks.new.values c.poly.inside.coefficients.items room)
    (is_poly g.row.M c.lives.result c.moebius_of_marks.new.values c.requires.sets c.lives.ensures.sets full
    c.moebius_of_marks.ensures.small)

pub returns-clause-full : goal.returns-clause-full
returns-clause-full g c =
    let room : length c.moebius_of_marks.new.values ≡ c.poly.inside.coefficients.len = omega arith in
    let full : length c.moebius_of_marks.new.values ≡ g.row.M = omega (arith, c.poly.invariant.full) in
    rw (written c.poly.inside.coefficients.len c.moebius_of_marks.new.values c.poly.inside.coefficients.items room) full

pub returns-clause-coefficients : goal.returns-clause-coefficients
returns-clause-coefficients g c =
    let room : length c.moebius_of_marks.new.values ≡ c.poly.inside.coefficients.len = omega arith in
    λ n e s l.
    let same : n ≡ c.lives.result = same_exponent n c.lives.result (sym e ∙ c.lives.ensures.sets) in
    rw (written c.poly.inside.coefficients.len c.moebius_of_marks.new.values c.poly.inside.coefficients.items room)
    (c.moebius_of_marks.ensures.coefficients s (l ∙ same))

pub returns-clause-values : goal.returns-clause-values
returns-clause-values g c =
    let room : length c.moebius_of_marks.new.values ≡ c.poly.inside.coefficients.len = omega arith in
    λ n e s l.
    let same : n ≡ c.lives.result = same_exponent n c.lives.result (sym e ∙ c.lives.ensures.sets) in
    rw (written c.poly.inside.coefficients.len c.moebius_of_marks.new.values c.poly.inside.coefficients.items room)
    (values_of c.lives.result (λ u. indicator (get_or c.args.marked.now (mask_of u) false))
    c.moebius_of_marks.new.values c.moebius_of_marks.ensures.coefficients s (l ∙ same))
