use Rattle.std.proofs.Common.{◌≡◌, ◌+◌, ◌*◌, ◌∙◌, true, arith, sym}
use Rattle.halo_sums.specs.Masks.{has_bit}
use Rattle.halo_life.specs.PlainGroup.{started, surviving}
use Rattle.halo_annuity.proofs.one_set.with_life.Goals as goal

pub returns-then-has_bit-clause-chance : goal.returns-then-has_bit-clause-chance
returns-then-has_bit-clause-chance g c = λ n d v h.
    let is : has_bit c.args.set c.args.i ≡ true = sym c.has_bit.ensures ∙ c.if-has_bit.true in
    let width : v + 2 * 1 ≡ v + 1 + 1 = omega arith in
    rw (is, width) (c.mul.ensures.chance n (surviving c.args.group.now c.args.t c.args.i) d
    (started c.args.group.now c.args.i) v 1 h c.survive.ensures.chance)

pub returns-then-has_bit-clause-cost : goal.returns-then-has_bit-clause-cost
returns-then-has_bit-clause-cost g c =
    let is : has_bit c.args.set c.args.i ≡ true = sym c.has_bit.ensures ∙ c.if-has_bit.true in
    rw is (omega (arith, c.mul.ensures.cost))
