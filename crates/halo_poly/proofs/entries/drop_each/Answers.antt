-- Past the end there is 0 on both sides.
use Rattle.std.proofs.Common.{◌≡◌, ℕ, ◌+◌, ◌^◌, ◌≤◌, arith, refl, Bool, true, false, cond, List, length, ℤ, pos}
use Rattle.std.proofs.lemmas.List.{get_or_past}
use Rattle.halo_sums.specs.Masks.{has_bit}
use Rattle.halo_poly.specs.Transform.{with_life}
use Rattle.halo_poly.proofs.Steps.{all_passed}
use Rattle.halo_poly.proofs.entries.drop_each.Goals as goal

past_with : (values : List ℤ) (life k : ℕ) → length values ≤ k → with_life values life k ≡ pos 0
unfolding with_life
past_with values life k h = rw (get_or_past values (k + 2 ^ life) (pos 0) (omega arith)) (either (has_bit k life))
  where
    either : (b : Bool) → cond b (pos 0) (pos 0) ≡ pos 0
    either true = refl
    either false = refl

pub returns-clause-dropped : goal.returns-clause-dropped
returns-clause-dropped c =
    all_passed _ c.args.into.now c.loop-mask.into c.loop-mask.mask c.loop-mask.invariant (omega arith)
    (λ k h. past_with c.args.values.now c.args.life k (omega (arith, c.requires.length)))
