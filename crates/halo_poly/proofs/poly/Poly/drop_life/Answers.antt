-- The set with a life more is a set of the same lives.
use Rattle.std.proofs.Common.{◌≡◌, ℕ, ◌+◌, ◌^◌, arith, refl, ◌∙◌, length, Bool, true, false, cond, pos, ℤ, List}
use Rattle.halo_sums.specs.Masks.{has_bit}
use Rattle.halo_poly.specs.Poly.{IsSmall, coefficient_at}
use Rattle.halo_poly.specs.Transform.{with_life}
use Rattle.halo_poly.proofs.Masks.{exponent-lt, life_few, room_for_life}
use Rattle.halo_poly.proofs.Transforms.{written}
use Rattle.halo_poly.proofs.Values.{value_of_part}
use Rattle.halo_poly.proofs.poly.Poly.drop_life.Goals as goal

pub drop_each-requires-clause-few : goal.drop_each-requires-clause-few
drop_each-requires-clause-few g c = life_few g.row.M c.args.life c.self.invariant.sets c.requires

pub drop_each-requires-clause-whole : goal.drop_each-requires-clause-whole
drop_each-requires-clause-whole g c =
    let full : length c.deref.result.now ≡ g.row.M = omega (arith, c.self.invariant.full, c.deref.ensures.len) in
    λ k h e. rw full (room_for_life g.row.M k c.args.life c.self.invariant.sets c.requires (rw full at h) e)

small_with : (p : List ℤ) (life k : ℕ) → ((mask : ℕ) → IsSmall (coefficient_at p mask)) → IsSmall (with_life p life k)
unfolding with_life
small_with p life k h = either (has_bit k life)
  where
    either : (b : Bool) → IsSmall (cond b (pos 0) (coefficient_at p (k + 2 ^ life)))
    either true = omega arith
    either false = h (k + 2 ^ life)

dropped : (p q : List ℤ) (life k : ℕ) → p ≡ q
    → with_life p life k ≡ cond (has_bit k life) (pos 0) (coefficient_at q (k + 2 ^ life))
unfolding with_life
dropped p q life k e = rw e refl

pub invariant_of-into : goal.invariant_of-into
invariant_of-into g c =
    let room : length c.drop_each.new.into ≡ c.into.inside.coefficients.len = omega arith in
    let full : length c.drop_each.new.into ≡ g.row.M = omega (arith, c.into.invariant.full) in
    rw (written c.into.inside.coefficients.len c.drop_each.new.into c.into.inside.coefficients.items room)
    (record {
      sets =
          c.into.invariant.sets;
      full =
          full;
      small =
          λ k.
          rw (c.drop_each.ensures.dropped k)
          (small_with _ c.args.life k (rw (← c.deref.ensures.value) at c.self.invariant.small));
    })

pub returns-clause-coefficients : goal.returns-clause-coefficients
returns-clause-coefficients g c =
    let room : length c.drop_each.new.into ≡ c.into.inside.coefficients.len = omega arith in
    λ k. rw (written c.into.inside.coefficients.len c.drop_each.new.into c.into.inside.coefficients.items room)
    (c.drop_each.ensures.dropped k ∙ dropped _ c.args.self.now c.args.life k (c.deref.ensures.value ∙ c.self.view_is))

pub returns-clause-values : goal.returns-clause-values
returns-clause-values g c =
    let room : length c.drop_each.new.into ≡ c.into.inside.coefficients.len = omega arith in
    λ n e s l. rw (written c.into.inside.coefficients.len c.drop_each.new.into c.into.inside.coefficients.items room)
    (value_of_part c.args.self.now c.drop_each.new.into c.args.life s
    (exponent-lt c.args.life (length s) (rw (e, ← l) at c.requires))
    (λ k.
    c.drop_each.ensures.dropped k ∙ dropped _ c.args.self.now c.args.life k (c.deref.ensures.value ∙ c.self.view_is)))
