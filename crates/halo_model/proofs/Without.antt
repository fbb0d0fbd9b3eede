-- The joint survivors of a set without one of its lives.
use Rattle.std.proofs.Common.{◌≡◌, ℕ, suc, ◌*◌, arith, refl, ap, ◌∙◌, List, ◌∷◌, Bool, true, false, cond, not, ◌&&◌, nat_eq}
use Rattle.std.proofs.Math.Path.{fun_ext}
use Rattle.std.proofs.lemmas.Bool.Decides.{nat_tests}
use Rattle.halo_model.specs.EvenTies.{without}
use Rattle.halo_model.specs.Life.{PlainLife, after_first}
use Rattle.halo_model.specs.Outcome.{joint_survivors}

kept : (b : Bool) → (b && true) ≡ b
kept true = refl
kept false = refl

not-first : (i : ℕ) → nat_eq (suc i) 0 ≡ false
not-first i = grind (arith, nat_tests)

one-later : (i a : ℕ) → nat_eq (suc i) (suc a) ≡ nat_eq i a
one-later i a = grind (arith, nat_tests)

later-of-first : (S : ℕ → Bool) → after_first (without S 0) ≡ after_first S
later-of-first S = fun_ext (λ i. ap (λ e. S (suc i) && not e) (not-first i) ∙ kept (S (suc i)))

later-of-later : (a : ℕ) (S : ℕ → Bool) → after_first (without S (suc a)) ≡ without (after_first S) a
later-of-later a S = fun_ext (λ i. ap (λ e. S (suc i) && not e) (one-later i a))

first-of-first : (S : ℕ → Bool) → without S 0 0 ≡ false
first-of-first S = none (S 0)
  where
    none : (b : Bool) → (b && not (nat_eq 0 0)) ≡ false
    none true = refl
    none false = refl

first-of-later : (a : ℕ) (S : ℕ → Bool) → without S (suc a) 0 ≡ S 0
first-of-later a S =
    let other : nat_eq 0 (suc a) ≡ false = grind (arith, nat_tests) in ap (λ e. S 0 && not e) other ∙ kept (S 0)

pub joint-without-first : (T : ℕ) (S : ℕ → Bool) (x : PlainLife) (lives : List PlainLife)
    → joint_survivors T (without S 0) (x ∷ lives) ≡ 1 * joint_survivors T (after_first S) lives
joint-without-first T S x lives =
    ap (λ b. cond b (x.survivors T) 1 * joint_survivors T (after_first (without S 0)) lives) (first-of-first S)
    ∙ ap (λ s. 1 * joint_survivors T s lives) (later-of-first S)

pub joint-without-later : (a T : ℕ) (S : ℕ → Bool) (x : PlainLife) (lives : List PlainLife)
    → joint_survivors T (without S (suc a)) (x ∷ lives)
    ≡ cond (S 0) (x.survivors T) 1 * joint_survivors T (without (after_first S) a) lives
joint-without-later a T S x lives =
    ap (λ b. cond b (x.survivors T) 1 * joint_survivors T (after_first (without S (suc a))) lives) (first-of-later a S)
    ∙ ap (λ s. cond (S 0) (x.survivors T) 1 * joint_survivors T s lives) (later-of-later a S)
