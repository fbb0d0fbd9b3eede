-- After its horizon a pay has no coefficient on lives that are alive.
use Rattle.std.proofs.Common.{◌≡◌, ℕ, zero, suc, ◌<◌, ◌≤◌, arith, refl, ap, ◌∙◌, List, [], ◌∷◌, length, Bool, true, false, ℤ, pos, ◌*ℤ◌}
use Rattle.std.proofs.Math.IntN.{*ℤ-zero}
use Rattle.std.proofs.lemmas.Bool.Decides.{nat_tests}
use Rattle.std.proofs.lemmas.Int.{ints}
use Rattle.halo_sums.specs.Sums.{indicator}
use Rattle.halo_sums.specs.Sets.{in_set}
use Rattle.halo_sums.specs.Coefficients.{coefficient}
use Rattle.halo_sums.proofs.Coefficients.{coefficient-empty, coefficient-with, coefficient-without}
use Rattle.halo_status.specs.Exists.{empty_set, exists}
use Rattle.halo_status.specs.View.{is_on}
use Rattle.halo_status.specs.declared.pay.Kind.{Kind}
use Rattle.halo_status.specs.declared.pay.Kind.TheVariants.{Insurance, Due, Immediate}
use Rattle.halo_status.proofs.Empty.{nobody_there}
use Rattle.halo_model.specs.Life.{AreLives, PlainLife}
use Rattle.halo_model.specs.Outcome.{joint_survivors}
use Rattle.halo_model.specs.Horizon.{Covers, horizon, years_left_of}
use Rattle.halo_model.specs.Segment.{last_time_of_form}
use Rattle.halo_model.specs.Coefficient.{existence, exists_by_mark, form, view_of}
use Rattle.halo_model.specs.Backward.{NothingAfterHorizon}
use Rattle.halo_status.proofs.Agreement.{agree}
use Rattle.halo_model.proofs.HorizonIsLeast.{horizon-is-least}

-- a set all of whose numbers are in another
abbrev Within : List Bool → List Bool → Type 0
Within u s = (i : ℕ) → in_set u i ≡ true → in_set s i ≡ true

after-it : (b : Bool) (u s : List Bool) → Within u s → Within (b ∷ u) (true ∷ s)
after-it b u s h zero e = refl
after-it b u s h (suc i) e = h i e

beside-it : (u s : List Bool) → Within u s → Within (false ∷ u) (false ∷ s)
beside-it u s h zero e = e
beside-it u s h (suc i) e = h i e

-- a function that is 0 within a set has no coefficient there
pub coefficient-zero : (f : List Bool → ℤ) (s : List Bool)
    → ((u : List Bool) → Within u s → f u ≡ pos 0) → coefficient f s ≡ pos 0
coefficient-zero f [] h = coefficient-empty f ∙ h [] (λ i e. e)
coefficient-zero f (false ∷ s) h = coefficient-without f s
    ∙ coefficient-zero (λ u. f (false ∷ u)) s (λ u w. h (false ∷ u) (beside-it u s w))
coefficient-zero f (true ∷ s) h = omega (
  arith,
  ints,
  coefficient-with f s,
  coefficient-zero (λ u. f (true ∷ u)) s (λ u w. h (true ∷ u) (after-it true u s w)),
  coefficient-zero (λ u. f (false ∷ u)) s (λ u w. h (false ∷ u) (after-it false u s w)),
)

-- nobody of a joint life survives where the table of one has ended
pub nobody-survives : (t : ℕ) (lives : List PlainLife) → AreLives lives → (s : List Bool) → length s ≡ length lives
    → (i : ℕ) → in_set s i ≡ true → years_left_of lives i ≤ t → joint_survivors t (in_set s) lives ≡ 0
nobody-survives t [] rule [] long i e h = absurd (cc)
nobody-survives t [] rule (b ∷ s) long i e h = absurd (omega arith)
nobody-survives t (x ∷ lives) rule [] long i e h = absurd (omega arith)
nobody-survives t (x ∷ lives) rule (false ∷ s) long zero e h = absurd (cc)
nobody-survives t (x ∷ lives) rule (true ∷ s) long zero e h = let z = rule.0.ends t h in rw z (omega arith)
nobody-survives t (x ∷ lives) rule (b ∷ s) long (suc i) e h =
    let z = nobody-survives t lives rule.1 s (omega arith) i e h in rw z (omega arith)

-- the terms that have ended by then
off : (kind : Kind) (years t n : ℕ)
    → 1 ≤ years → last_time_of_form kind years < t → n ≤ years → is_on (view_of kind) t n ≡ false
off Insurance years t n one h k = let e : n ≤ t = omega arith in grind (arith, nat_tests)
off Due years t n one h k = let e : n ≤ t = omega arith in grind (arith, nat_tests)
off Immediate years t n one h k = let e : n < t = omega arith in grind (arith, nat_tests)

late : (kind : Kind) (years t n : ℕ) → 1 ≤ years → last_time_of_form kind years < t → n ≤ years → n ≤ t
late Insurance years t n one h k = omega arith
late Due years t n one h k = omega arith
late Immediate years t n one h k = omega arith

not-true : (b : Bool) → (b ≡ true → ⊥) → b ≡ false
not-true true h = absurd (h refl)
not-true false h = refl

pub nothing-after-horizon : NothingAfterHorizon
unfolding form
nothing-after-horizon b rule pay plain lists ranks t after s long =
    by-survivors (joint_survivors t (in_set s) b.lives) refl
  where
    covers : Covers b.lives pay.body (horizon b.lives pay.body)
    covers = (horizon-is-least b.lives pay.body (horizon b.lives pay.body)).0 (omega arith)

    gone : (n : ℕ) → joint_survivors t (in_set s) b.lives ≡ suc n
        → (u : List Bool) → Within u s → exists (in_set u) (is_on (view_of pay.kind) t) pay.body ≡ false
    gone n some u within =
        agree (in_set u) empty_set (is_on (view_of pay.kind) t) empty_set pay.body
        (λ i named. not-true (in_set u i) (λ e. absurd (omega (
          arith,
          some,
          nobody-survives t b.lives rule s long i (within i e)
              (late pay.kind
              (horizon b.lives pay.body) t (years_left_of b.lives i) covers.one after (covers.each_life i named)),
        ))))
        (λ m named. off pay.kind (horizon b.lives pay.body) t m covers.one after (covers.each_term m named))
        ∙ nobody_there pay.body lists ranks

    by-survivors : (j : ℕ) → joint_survivors t (in_set s) b.lives ≡ j → coefficient (existence pay t) s *ℤ pos j ≡ pos 0
    by-survivors zero e = *ℤ-zero (coefficient (existence pay t) s)
    by-survivors (suc n) e =
        ap (λ c. c *ℤ pos (suc n)) (coefficient-zero (existence pay t) s (λ u within.
        ap (λ mark. indicator (exists_by_mark mark pay.body (in_set u) (is_on (view_of pay.kind) t))) plain
        ∙ ap indicator (gone n e u within)))
        ∙ omega (arith, ints)
