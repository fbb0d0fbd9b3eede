-- The members of a status, by their places, and walks over them.
use Rattle.std.proofs.Common.{◌≡◌, ◌↔◌, ℕ, zero, suc, ◌+◌, ◌<◌, List, [], ◌∷◌, length, drop, slice_get, Some, Bool, true, false, IsTrue, refl, subst, sym, ◌∙◌, arith, add-one}
use Rattle.std.proofs.Math.Bool.{or-true}
use Rattle.halo_status.specs.Naming.{any_names_life, AnyNamesLivesBelow, names_life, NamesLivesBelow}
use Rattle.halo_status.specs.StatusTree.{tree_of, trees_in}
use Rattle.halo_status.specs.Tree.{Tree, Trees, member_at, member_count, more, none}
use Rattle.halo_status.specs.declared.status.Status.{Status}

-- there are as many trees as members
pub member_count-trees_in : (ss : List Status) → member_count (trees_in ss) ≡ length ss
member_count-trees_in [] = refl
member_count-trees_in (s ∷ ss) = omega (arith, member_count-trees_in ss)

-- the tree at a place is that of the member there
pub member_at-trees_in : (ss : List Status) (i : ℕ) (s : Status) → slice_get ss i ≡ Some s
    → member_at (trees_in ss) i ≡ Some (tree_of s)
member_at-trees_in [] i s is = absurd (cc)
member_at-trees_in (o ∷ ss) zero s is = cc
member_at-trees_in (o ∷ ss) (suc i) s is = member_at-trees_in ss i s is

-- and there is none from their number on
pub member_at-lt : (ms : Trees) (i : ℕ) (t : Tree) → member_at ms i ≡ Some t → i < member_count ms
member_at-lt none i t is = absurd (cc)
member_at-lt (more s ms) zero t is = omega arith
member_at-lt (more s ms) (suc i) t is = omega (arith, member_at-lt ms i t is)

-- a life that a member names is named by the members
any_names : (ms : Trees) (i : ℕ) (t : Tree) (life : ℕ) → member_at ms i ≡ Some t → names_life life t ≡ true
    → any_names_life life ms ≡ true
any_names none i t life is named = absurd (cc)
any_names (more s ms) zero t life is named = let here : names_life life s ≡ true = cc in rw here
any_names (more s ms) (suc i) t life is named = rw (any_names ms i t life is named, or-true _)

-- so the bound on all of them is one for each
pub lives_below-member : (bound : ℕ) (ss : List Status) (i : ℕ) (s : Status) → slice_get ss i ≡ Some s
    → AnyNamesLivesBelow bound (trees_in ss) → NamesLivesBelow bound (tree_of s)
lives_below-member bound ss i s is below life named =
    below life (any_names _ i _ life (member_at-trees_in ss i s is) named)

-- the members left at a place are the one there and those behind it
trees_left : (ss : List Status) (i : ℕ) (s : Status) → slice_get ss i ≡ Some s
    → trees_in (drop i ss) ≡ more (tree_of s) (trees_in (drop (i + 1) ss))
trees_left [] i s is = absurd (cc)
trees_left (o ∷ ss) zero s is = cc
trees_left (o ∷ ss) (suc i) s is = rw add-one (rw add-one at (trees_left ss i s is))

-- a walk over members for a fact P of lists that says Q of each member, where b tells Q of the member at hand
module _ (P : Trees → Type 0) (Q : Tree → Type 0) (split : (t : Tree) (ms : Trees) → P (more t ms) ↔ (Q t × P ms))
    (ss : List Status) (i : ℕ) (s : Status)
    (is : slice_get ss i ≡ Some s) (b : Bool) (tells : IsTrue b ↔ Q (tree_of s))
    (left : P (trees_in (drop i ss)) ↔ P (trees_in ss)) where
  step : P (trees_in (drop i ss)) ↔ (Q (tree_of s) × P (trees_in (drop (i + 1) ss)))
  step = subst (λ ms. P ms ↔ (Q (tree_of s) × P (trees_in (drop (i + 1) ss)))) (sym (trees_left ss i s is)) (split _ _)

  -- where it holds, those behind decide
  pub walk_on : b ≡ true → P (trees_in (drop (i + 1) ss)) ↔ P (trees_in ss)
  walk_on passed = ((λ h. left.0 (step.1 (tells.0 passed, h))), (λ h. (step.0 (left.1 h)).1))

  -- where it does not, all is decided
  pub walk_ends : b ≡ false → IsTrue false ↔ P (trees_in ss)
  walk_ends failed = ((λ h. absurd (cc h)), (λ h. sym failed ∙ tells.1 (step.0 (left.1 h)).0))

pub ruleset counts = (member_count-trees_in)
