-- What is taken stands at a set without the life, where the pass has changed nothing.
use Rattle.std.proofs.Common.{◌≡◌, ℕ, ◌<◌, ◌≤◌, ◌-ℤ◌, arith, rules, List, true, ℤ, SFits, w64, to_z, of_z}
use Rattle.std.proofs.lemmas.Int.{to_z-of_z}
use Rattle.halo_sums.specs.Within.{is_within}
use Rattle.halo_sums.proofs.Within.{within-below}
use Rattle.halo_poly.specs.Poly.{coefficient_at}
use Rattle.halo_poly.specs.Transform.{without}
use Rattle.halo_poly.proofs.Masks.{no_bit}
use Rattle.halo_poly.proofs.Steps.{difference_computed, nothing_taken}
use Rattle.halo_poly.proofs.Walks.{HasCome, come_kept, come_last, come_next, come_to, made_same}
use Rattle.halo_poly.proofs.transform.take_within.Goals as goal

module _ (all life : ℕ) (old : List ℤ) where
  abbrev taken : ℕ → ℤ
  taken k = coefficient_at old k -ℤ without old life k

  computed : (now : List ℤ) (set next : ℕ) (w : ℤ) → HasCome all taken old now set → set < next
      → ((k : ℕ) → is_within k all ≡ true → set < k → next ≤ k)
      → SFits w64 (coefficient_at now next) → SFits w64 w → w ≡ without now life next
      → to_z w64 (of_z w64 (coefficient_at now next)) -ℤ to_z w64 (of_z w64 w) ≡ taken next
  computed now set next w come later first f g e =
      difference_computed _ old now next life w f g e (come_to all taken old now set next come later first)
      (λ k gone. made_same all taken old k (nothing_taken old life k gone))

pub loop-set-init : goal.loop-set-init
loop-set-init c =
    come_kept c.args.named _ c.args.values.now (nothing_taken c.args.values.now c.args.life 0 (no_bit c.args.life))

pub next_within-set-requires-clause-within : goal.next_within-set-requires-clause-within
next_within-set-requires-clause-within c = c.loop-set.invariant.within

pub overflow_sub-values : goal.overflow_sub-values
overflow_sub-values c =
    let f : SFits w64 (coefficient_at c.loop-set.values c.next_within-set.result) = search rules in
    let g : SFits w64 c.without.result = search rules in
    rw (computed c.args.named c.args.life c.args.values.now c.loop-set.values c.loop-set.set c.next_within-set.result
    c.without.result c.loop-set.invariant c.next_within-set.ensures.later c.next_within-set.ensures.next
    f g c.without.ensures)
    (c.requires.fits c.next_within-set.result c.next_within-set.ensures.within)

pub loop-set-preserved : goal.loop-set-preserved
loop-set-preserved c =
    let f : SFits w64 (coefficient_at c.loop-set.values c.next_within-set.result) = search rules in
    let g : SFits w64 c.without.result = search rules in
    let difference =
    computed c.args.named c.args.life c.args.values.now c.loop-set.values c.loop-set.set c.next_within-set.result
    c.without.result c.loop-set.invariant c.next_within-set.ensures.later c.next_within-set.ensures.next
    f g c.without.ensures in
    come_next c.args.named _ c.args.values.now c.loop-set.values c.loop-set.set c.next_within-set.result
    c.loop-set.invariant _ c.next_within-set.ensures.within
    (omega (arith, within-below c.next_within-set.result c.args.named c.next_within-set.ensures.within))
    (come_to c.args.named _ c.args.values.now c.loop-set.values c.loop-set.set c.next_within-set.result
    c.loop-set.invariant c.next_within-set.ensures.later c.next_within-set.ensures.next)
    (rw difference (to_z-of_z w64 _ (c.requires.fits c.next_within-set.result c.next_within-set.ensures.within)))

pub returns-clause-differences : goal.returns-clause-differences
returns-clause-differences c =
    let last : c.loop-set.set ≡ c.args.named = omega arith in
    come_last c.args.named _ c.args.values.now c.loop-set.values (rw last at c.loop-set.invariant)
