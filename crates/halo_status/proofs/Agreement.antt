-- A status depends only on the lives and terms that it names.
use Rattle.std.proofs.Common.{◌≡◌, ℕ, refl, ap, ◌∙◌, ◌∷◌, Bool, true, false, not, ◌&&◌, ◌||◌, nat_eq, nat_le, arith}
use Rattle.std.specs.List.{list_all, list_any}
use Rattle.std.proofs.lemmas.Bool.Decides.{nat_tests}
use Rattle.halo_status.specs.Tree.{Tree, Trees, life, term, joint, last, at_least, exactly, after, none, more}
use Rattle.halo_status.specs.Exists.{each_exists, exists}
use Rattle.halo_sums.specs.Sums.{count_true}
use Rattle.halo_status.specs.Naming.{any_names_life, any_names_term, names_life, names_term}

pub same : (i : ℕ) → nat_eq i i ≡ true
same i = grind (arith, nat_tests)

pub or-left : (a b : Bool) → a ≡ true → (a || b) ≡ true
or-left true b e = refl
or-left false b e = absurd (cc)

pub or-right : (a b : Bool) → b ≡ true → (a || b) ≡ true
or-right true b e = refl
or-right false b e = e

module _ (alive other_alive on other_on : ℕ → Bool) where
  mutual
    pub agree : (s : Tree) → ((i : ℕ) → names_life i s ≡ true → alive i ≡ other_alive i)
        → ((n : ℕ) → names_term n s ≡ true → on n ≡ other_on n) → exists alive on s ≡ exists other_alive other_on s
    agree (life i) lives terms = lives i (same i)
    agree (term n) lives terms = terms n (same n)
    agree (joint ms) lives terms = ap (list_all (λ b. b)) (each-agree ms lives terms)
    agree (last ms) lives terms = ap (list_any (λ b. b)) (each-agree ms lives terms)
    agree (at_least r ms) lives terms = ap (λ bs. nat_le r (count_true bs)) (each-agree ms lives terms)
    agree (exactly r ms) lives terms = ap (λ bs. nat_eq (count_true bs) r) (each-agree ms lives terms)
    agree (after s t) lives terms =
        ap (λ b. b && not (exists alive on s)) (agree t (λ i e. lives i (or-right (names_life i s) _ e))
        (λ n e. terms n (or-right (names_term n s) _ e)))
        ∙ ap (λ b. exists other_alive other_on t && not b)
        (agree s (λ i e. lives i (or-left _ _ e)) (λ n e. terms n (or-left _ _ e)))

    pub each-agree : (ms : Trees) → ((i : ℕ) → any_names_life i ms ≡ true → alive i ≡ other_alive i)
        → ((n : ℕ) → any_names_term n ms ≡ true → on n ≡ other_on n)
        → each_exists alive on ms ≡ each_exists other_alive other_on ms
    each-agree none lives terms = refl
    each-agree (more s ms) lives terms =
        ap (λ b. b ∷ each_exists alive on ms) (agree s (λ i e. lives i (or-left _ _ e))
        (λ n e. terms n (or-left _ _ e)))
        ∙ ap (λ bs. exists other_alive other_on s ∷ bs)
        (each-agree ms (λ i e. lives i (or-right (names_life i s) _ e))
        (λ n e. terms n (or-right (names_term n s) _ e)))
