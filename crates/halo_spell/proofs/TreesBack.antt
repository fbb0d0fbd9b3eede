-- The canonical tree of a status means the status again.
use Rattle.std.proofs.Common.{◌≡◌, ℕ, ◌≤◌, ◌<◌, List, ap, ap₂, ◌∙◌, refl, arith}
use Rattle.halo_status.specs.Nodes.{AtEachNode, AtEachNodeIn}
use Rattle.halo_status.specs.Tree as status
use Rattle.halo_status.specs.Tree.{Tree, Trees}
use Rattle.halo_symbol.specs.StatusOf.{tree_of_body, tree_of_list, tree_of_node, trees_of_members}
use Rattle.halo_symbol.specs.Tree.{Node, life, term, last, at_least, exactly, group, Members, one, and, list, reversion}
use Rattle.halo_spell.specs.Canonical.{body_of, canonical_body, canonical_members, canonical_node, canonical_row, list_of, name_at}
use Rattle.halo_spell.proofs.FitTrees.{IsFit}
use Rattle.halo_spell.proofs.NumbersBack.{number-decimal}

module _ (life_of : List ℕ → ℕ) where
  -- a member by itself as a list, and as a body, means the same
  list_of-same : (m : Node) → tree_of_list life_of (list_of m) ≡ tree_of_node life_of m
  list_of-same (life name) = refl
  list_of-same (term years) = refl
  list_of-same (last ms) = refl
  list_of-same (at_least rank ms) = refl
  list_of-same (exactly rank ms) = refl
  list_of-same (group (list ms)) = refl
  list_of-same (group (reversion ms ns)) = refl

  body_of-same : (m : Node) → tree_of_body life_of (body_of m) ≡ tree_of_node life_of m
  body_of-same (life name) = refl
  body_of-same (term years) = refl
  body_of-same (last ms) = refl
  body_of-same (at_least rank ms) = refl
  body_of-same (exactly rank ms) = refl
  body_of-same (group body) = refl

  -- a list of two members or more is joint
  joint_list : (ms : Members) (ts : Trees) → trees_of_members life_of ms ≡ ts → 2 ≤ status.member_count ts
      → tree_of_list life_of ms ≡ status.joint ts
  joint_list (one m) ts e two = let count = ap status.member_count e in absurd (omega arith)
  joint_list (and m ms) ts e two = ap status.joint e

  module _ (names : List (List ℕ)) (bound : ℕ) (back : (i : ℕ) → i < bound → life_of (name_at names i) ≡ i) where
    mutual
      pub node_back : (s : Tree) → AtEachNode (IsFit bound) s → tree_of_node life_of (canonical_node names s) ≡ s
      node_back (status.life i) fit = ap status.life (back i fit)
      node_back (status.term n) fit = ap status.term (number-decimal n (omega (arith, fit.1)))
      node_back (status.joint ms) fit =
          joint_list (canonical_members names ms) ms (members_back ms (omega (arith, fit.0.0)) fit.1) fit.0.0
      node_back (status.last ms) fit = ap status.last (members_back ms fit.0.0 fit.1)
      node_back (status.at_least r ms) fit =
          ap₂ status.at_least (number-decimal r (omega (arith, fit.0.1.1, fit.0.0.1))) (members_back ms fit.0.0.0 fit.1)
      node_back (status.exactly r ms) fit =
          ap₂ status.exactly (number-decimal r (omega (arith, fit.0.1.1, fit.0.0.1))) (members_back ms fit.0.0.0 fit.1)
      node_back (status.after s t) fit =
          ap₂ status.after (list_of-same (canonical_node names s) ∙ node_back s fit.1)
          (list_of-same (canonical_node names t) ∙ node_back t fit.2)

      pub members_back : (ms : Trees) → 1 ≤ status.member_count ms → AtEachNodeIn (IsFit bound) ms
          → trees_of_members life_of (canonical_members names ms) ≡ ms
      members_back status.none some fit = absurd (omega arith)
      members_back (status.more s ms) some fit = row_back (canonical_node names s) s ms (node_back s fit.0) fit.1

      row_back : (first : Node) (s : Tree) (ms : Trees) → tree_of_node life_of first ≡ s → AtEachNodeIn (IsFit bound) ms
          → trees_of_members life_of (canonical_row names first ms) ≡ status.more s ms
      row_back first s status.none e fit = ap (λ t. status.more t status.none) e
      row_back first s (status.more t ms) e fit =
          ap₂ status.more e (row_back (canonical_node names t) t ms (node_back t fit.0) fit.1)

    -- so does the status by itself
    pub body_back : (s : Tree) → AtEachNode (IsFit bound) s → tree_of_body life_of (canonical_body names s) ≡ s
    body_back s fit = body_of-same (canonical_node names s) ∙ node_back s fit
