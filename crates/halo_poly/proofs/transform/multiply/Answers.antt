-- There is room for the sets of 12 lives.
use Rattle.std.proofs.Common.{◌≤◌, ◌^◌, arith, sym, ◌∙◌, length, replicate, pos}
use Rattle.std.proofs.Math.Nat.{pow-le-pow_right}
use Rattle.std.proofs.lemmas.List.{length-replicate, length-take-le}
use Rattle.halo_poly.proofs.Masks.{two_positive}
use Rattle.halo_poly.proofs.transform.multiply.Goals as goal

pub slice_bounds-scratch-end : goal.slice_bounds-scratch-end
slice_bounds-scratch-end c =
    let room : 2 ^ c.args.lives ≤ 2 ^ 12 = pow-le-pow_right two_positive c.requires.few in
    omega (arith, c.requires.full, c.requires.left.full)

pub slice_bounds-values-end : goal.slice_bounds-values-end
slice_bounds-values-end c =
    let room : 2 ^ c.args.lives ≤ 2 ^ 12 = pow-le-pow_right two_positive c.requires.few in
    sym (length-take-le (length c.args.left.now) (replicate 4096 (pos 0))
    (omega (arith, c.requires.full, c.requires.left.full, length-replicate 4096 (pos 0))))

pub multiply_with-requires-clause-scratch : goal.multiply_with-requires-clause-scratch
multiply_with-requires-clause-scratch c =
    let room : 2 ^ c.args.lives ≤ 2 ^ 12 = pow-le-pow_right two_positive c.requires.few in
    length-take-le (length c.args.left.now) (replicate 4096 (pos 0))
    (omega (arith, c.requires.full, c.requires.left.full, length-replicate 4096 (pos 0)))
    ∙ c.requires.left.full
