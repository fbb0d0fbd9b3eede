-- A value that is 0 or 1 has small coefficients.
use Rattle.std.proofs.Common.{◌≡◌, false, get_or, arith}
use Rattle.std.proofs.Math.Path.{fun_ext}
use Rattle.halo_sums.specs.Sums.{indicator}
use Rattle.halo_sums.specs.SetMasks.{mask_of}
use Rattle.halo_poly.specs.Poly.{coefficient_of}
use Rattle.halo_poly.proofs.Transforms.{test_small}
use Rattle.halo_poly.proofs.transform.moebius_of_marks.Goals as goal

pub moebius-requires-clause-small : goal.moebius-requires-clause-small
moebius-requires-clause-small c =
    let marks : coefficient_of c.mark_each.new.values ≡ (λ u. indicator (get_or c.args.marked.now (mask_of u) false)) =
    fun_ext (λ u. c.mark_each.ensures.marks (mask_of u)) in
    λ s l. rw marks (test_small (λ u. get_or c.args.marked.now (mask_of u) false) s (omega (arith, c.requires.few)))

pub returns-clause-coefficients : goal.returns-clause-coefficients
returns-clause-coefficients c =
    let marks : coefficient_of c.mark_each.new.values ≡ (λ u. indicator (get_or c.args.marked.now (mask_of u) false)) =
    fun_ext (λ u. c.mark_each.ensures.marks (mask_of u)) in
    λ s l. rw marks at (c.moebius.ensures.coefficients s l)

pub returns-clause-small : goal.returns-clause-small
returns-clause-small c =
    let marks : coefficient_of c.mark_each.new.values ≡ (λ u. indicator (get_or c.args.marked.now (mask_of u) false)) =
    fun_ext (λ u. c.mark_each.ensures.marks (mask_of u)) in
    λ s l.
    rw (c.moebius.ensures.coefficients s l, marks)
    (test_small (λ u. get_or c.args.marked.now (mask_of u) false) s (omega (arith, c.requires.few)))
