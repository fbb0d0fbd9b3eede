-- The terms of a valid pay are short.
use Rattle.std.proofs.Common.{◌≡◌, ℕ, ◌≤◌, ◌⊎◌, Bool, true, false, ◌||◌, inl, inr, refl, ⊎_elim, arith}
use Rattle.std.proofs.lemmas.Bool.{eqb-true}
use Rattle.halo_status.specs.Tree.{Tree, Trees, life, term, joint, last, at_least, exactly, after, none, more}
use Rattle.halo_status.specs.Naming.{any_names_term, names_term}
use Rattle.halo_status.specs.Nodes.{AtEachNode, AtEachNodeIn}
use Rattle.halo_status.specs.ValidPay.{HasLength}

-- one of two tests that are true together
pub either : (a b : Bool) → (a || b) ≡ true → (a ≡ true) ⊎ (b ≡ true)
either true b e = inl refl
either false b e = inr e

mutual
  pub short-terms : (s : Tree) → AtEachNode HasLength s → (n : ℕ) → names_term n s ≡ true → n ≤ 200
  short-terms (life i) each n named = absurd (cc)
  short-terms (term m) each n named = omega (arith, eqb-true n m named, each.1)
  short-terms (joint ms) each n named = short-in ms each.1 n named
  short-terms (last ms) each n named = short-in ms each.1 n named
  short-terms (at_least r ms) each n named = short-in ms each.1 n named
  short-terms (exactly r ms) each n named = short-in ms each.1 n named
  short-terms (after s t) each n named = ⊎_elim
      (λ (first : names_term n s ≡ true). short-terms s each.1 n first)
      (λ (then : names_term n t ≡ true). short-terms t each.2 n then)
      (either (names_term n s) (names_term n t) named)

  short-in : (ms : Trees) → AtEachNodeIn HasLength ms → (n : ℕ) → any_names_term n ms ≡ true → n ≤ 200
  short-in none each n named = absurd (cc)
  short-in (more s ms) each n named = ⊎_elim
      (λ (first : names_term n s ≡ true). short-terms s each.0 n first)
      (λ (others : any_names_term n ms ≡ true). short-in ms each.1 n others)
      (either (names_term n s) (any_names_term n ms) named)
