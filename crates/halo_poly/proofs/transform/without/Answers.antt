-- A set with a life has a set without it.
use Rattle.std.proofs.Common.{◌≡◌, ◌-◌, ◌*◌, ◌%◌, ◌^◌, refl, rules, sym, ◌∙◌, true, false, get_or, pos, SFits, w64}
use Rattle.std.proofs.lemmas.Int.{to_z-of_z}
use Rattle.halo_sums.specs.Masks.{has_bit}
use Rattle.halo_poly.specs.Transform.{without}
use Rattle.halo_poly.proofs.Masks.{has_bit-le, whole}
use Rattle.halo_poly.proofs.transform.without.Goals as goal

pub overflow_sub-result : goal.overflow_sub-result
overflow_sub-result c =
    rw (whole c.args.life c.requires.few)
    (has_bit-le c.args.mask c.args.life (sym c.has_bit.ensures ∙ c.if-has_bit.true))

pub returns-then-has_bit : goal.returns-then-has_bit
unfolding without
returns-then-has_bit c =
    let there : has_bit c.args.mask c.args.life ≡ true = sym c.has_bit.ensures ∙ c.if-has_bit.true in
    let at = c.args.mask - 1 * 2 ^ c.args.life % 18446744073709551616 in
    let fits : SFits w64 (get_or c.args.values.now at (pos 0)) = search rules in
    to_z-of_z w64 (get_or c.args.values.now at (pos 0)) fits ∙ rw (there, whole c.args.life c.requires.few) refl

pub returns-else-has_bit : goal.returns-else-has_bit
unfolding without
returns-else-has_bit c =
    let gone : has_bit c.args.mask c.args.life ≡ false = sym c.has_bit.ensures ∙ c.if-has_bit.false in
    rw gone refl
