-- A life that a body does not name is in no set with a coefficient.
use Rattle.std.proofs.Common.{◌≡◌, ℕ, zero, suc, arith, refl, ap, ◌∙◌, List, [], ◌∷◌, Bool, true, false, nat_eq, ℤ, pos, ◌-ℤ◌}
use Rattle.std.proofs.Math.Path.{fun_ext}
use Rattle.std.proofs.lemmas.Bool.Decides.{nat_tests}
use Rattle.std.proofs.lemmas.Int.{ints}
use Rattle.halo_sums.specs.Sums.{indicator}
use Rattle.halo_sums.specs.Sets.{in_set}
use Rattle.halo_sums.specs.Coefficients.{coefficient}
use Rattle.halo_sums.proofs.Coefficients.{coefficient-with, coefficient-without}
use Rattle.halo_status.specs.Naming.{names_life}
use Rattle.halo_status.specs.View.{is_on}
use Rattle.halo_model.specs.Coefficient.{existence, form, view_of}
use Rattle.halo_model.specs.Unnamed.{UnnamedDoNotCount}
use Rattle.halo_status.proofs.Agreement.{agree}

-- two sets that differ at most in life i
abbrev DifferAt : ℕ → List Bool → List Bool → Type 0
DifferAt i u v = (j : ℕ) → nat_eq j i ≡ false → in_set u j ≡ in_set v j

first-differs : (u : List Bool) → DifferAt 0 (true ∷ u) (false ∷ u)
first-differs u zero e = absurd (cc)
first-differs u (suc j) e = refl

later-differs : (i : ℕ) (b : Bool) (u v : List Bool) → DifferAt i u v → DifferAt (suc i) (b ∷ u) (b ∷ v)
later-differs i b u v h zero e = refl
later-differs i b u v h (suc j) e = h j (less j i e)
  where
    less : (j i : ℕ) → nat_eq (suc j) (suc i) ≡ false → nat_eq j i ≡ false
    less j i e = grind (arith, nat_tests)

-- a function that does not see life i has no coefficient on a set with it
pub coefficient-blind : (f : List Bool → ℤ) (i : ℕ)
    → ((u v : List Bool) → DifferAt i u v → f u ≡ f v) → (s : List Bool) → in_set s i ≡ true → coefficient f s ≡ pos 0
coefficient-blind f i h [] e = absurd (cc)
coefficient-blind f zero h (false ∷ s) e = absurd (cc)
coefficient-blind f zero h (true ∷ s) e =
    coefficient-with f s
    ∙ ap (λ g. coefficient g s -ℤ coefficient (λ u. f (false ∷ u)) s)
    (fun_ext (λ u. h (true ∷ u) (false ∷ u) (first-differs u)))
    ∙ none (coefficient (λ u. f (false ∷ u)) s)
  where
    none : (z : ℤ) → z -ℤ z ≡ pos 0
    none z = omega (arith, ints)
coefficient-blind f (suc i) h (false ∷ s) e =
    coefficient-without f s ∙ coefficient-blind
    (λ u. f (false ∷ u)) i (λ u v d. h (false ∷ u) (false ∷ v) (later-differs i false u v d)) s e
coefficient-blind f (suc i) h (true ∷ s) e = omega (
  arith,
  ints,
  coefficient-with f s,
  coefficient-blind (λ u. f (true ∷ u)) i (λ u v d. h (true ∷ u) (true ∷ v) (later-differs i true u v d)) s e,
  coefficient-blind (λ u. f (false ∷ u)) i (λ u v d. h (false ∷ u) (false ∷ v) (later-differs i false u v d)) s e,
)

pub unnamed-do-not-count : UnnamedDoNotCount
unfolding form
unnamed-do-not-count pay plain i unnamed t s inside = coefficient-blind (existence pay t) i same s inside
  where
    other : (j : ℕ) → names_life j pay.body ≡ true → (is : Bool) → nat_eq j i ≡ is → is ≡ false
    other j named false e = refl
    other j named true e = let same : j ≡ i = grind (arith, nat_tests) in absurd (cc (same, named, unnamed))

    same : (u v : List Bool) → DifferAt i u v → existence pay t u ≡ existence pay t v
    same u v d = rw plain (ap indicator (
        agree (in_set u) (in_set v) (is_on (view_of pay.kind) t) (is_on (view_of pay.kind) t) pay.body
        (λ j named. d j (other j named (nat_eq j i) refl)) (λ n named. refl)))
