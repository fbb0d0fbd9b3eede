-- The horizon is the least number of years that covers a status.
use Rattle.std.proofs.Common.{◌≡◌, ℕ, ◌≤◌, arith, refl, Bool, true, false, ◌||◌, nat_eq}
use Rattle.std.proofs.lemmas.Bool.Decides.{nat_tests}
use Rattle.halo_status.specs.Tree.{Tree, Trees, life, term, joint, last, at_least, exactly, after, none, more}
use Rattle.halo_status.specs.Naming.{any_names_life, any_names_term, names_life, names_term}
use Rattle.halo_model.specs.Horizon.{HorizonIsLeast, horizon, longest, longest_of, years_left_of}
use Rattle.halo_status.proofs.Agreement.{or-left, or-right, same}

equal : (i j : ℕ) → nat_eq i j ≡ true → i ≡ j
equal i j e = grind (arith, nat_tests)

either : {P : Type 0} → (a b : Bool) → (a || b) ≡ true → (a ≡ true → P) → (b ≡ true → P) → P
either true b e left right = left refl
either false b e left right = right e

module _ (left : ℕ → ℕ) (years : ℕ) where
  mutual
    named-within : (s : Tree) → longest left s ≤ years → (i : ℕ) → names_life i s ≡ true → left i ≤ years
    named-within (life j) h i e = rw (equal i j e) h
    named-within (term n) h i e = absurd (cc)
    named-within (joint ms) h i e = any-named-within ms h i e
    named-within (last ms) h i e = any-named-within ms h i e
    named-within (at_least r ms) h i e = any-named-within ms h i e
    named-within (exactly r ms) h i e = any-named-within ms h i e
    named-within (after s t) h i e =
        either (names_life i s) (names_life i t) e (named-within s (omega arith) i) (named-within t (omega arith) i)

    any-named-within : (ms : Trees) → longest_of left ms ≤ years → (i : ℕ) → any_names_life i ms ≡ true → left i ≤ years
    any-named-within none h i e = absurd (cc)
    any-named-within (more s ms) h i e =
        either (names_life i s) (any_names_life i ms) e (named-within s (omega arith) i)
        (any-named-within ms (omega arith) i)

  mutual
    term-within : (s : Tree) → longest left s ≤ years → (n : ℕ) → names_term n s ≡ true → n ≤ years
    term-within (life i) h n e = absurd (cc)
    term-within (term m) h n e = rw (equal n m e) h
    term-within (joint ms) h n e = any-term-within ms h n e
    term-within (last ms) h n e = any-term-within ms h n e
    term-within (at_least r ms) h n e = any-term-within ms h n e
    term-within (exactly r ms) h n e = any-term-within ms h n e
    term-within (after s t) h n e =
        either (names_term n s) (names_term n t) e (term-within s (omega arith) n) (term-within t (omega arith) n)

    any-term-within : (ms : Trees) → longest_of left ms ≤ years → (n : ℕ) → any_names_term n ms ≡ true → n ≤ years
    any-term-within none h n e = absurd (cc)
    any-term-within (more s ms) h n e =
        either (names_term n s) (any_names_term n ms) e (term-within s (omega arith) n)
        (any-term-within ms (omega arith) n)

  mutual
    longest-within : (s : Tree) → ((i : ℕ) → names_life i s ≡ true → left i ≤ years)
        → ((n : ℕ) → names_term n s ≡ true → n ≤ years) → longest left s ≤ years
    longest-within (life i) lives terms = lives i (same i)
    longest-within (term n) lives terms = terms n (same n)
    longest-within (joint ms) lives terms = longest_of-within ms lives terms
    longest-within (last ms) lives terms = longest_of-within ms lives terms
    longest-within (at_least r ms) lives terms = longest_of-within ms lives terms
    longest-within (exactly r ms) lives terms = longest_of-within ms lives terms
    longest-within (after s t) lives terms = omega (
      arith,
      longest-within s (λ i e. lives i (or-left _ _ e)) (λ n e. terms n (or-left _ _ e)),
      longest-within t (λ i e. lives i (or-right (names_life i s) _ e))
          (λ n e. terms n (or-right (names_term n s) _ e)),
    )

    longest_of-within : (ms : Trees) → ((i : ℕ) → any_names_life i ms ≡ true → left i ≤ years)
        → ((n : ℕ) → any_names_term n ms ≡ true → n ≤ years) → longest_of left ms ≤ years
    longest_of-within none lives terms = omega arith
    longest_of-within (more s ms) lives terms = omega (
      arith,
      longest-within s (λ i e. lives i (or-left _ _ e)) (λ n e. terms n (or-left _ _ e)),
      longest_of-within ms (λ i e. lives i (or-right (names_life i s) _ e))
          (λ n e. terms n (or-right (names_term n s) _ e)),
    )

pub horizon-is-least : HorizonIsLeast
unfolding horizon
horizon-is-least lives body years = (
  λ h. record {
    one = omega arith;
    each_life = named-within (years_left_of lives) years body (omega arith);
    each_term = term-within (years_left_of lives) years body (omega arith);
  },
  λ covers. omega (
    arith,
    covers.one,
    longest-within (years_left_of lives) years body covers.each_life
        covers.each_term,
  ),
)
