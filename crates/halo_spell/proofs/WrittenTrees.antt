-- What holds of the status that a body means: its joint statuses have two members or more, and its canonical tree has
-- no more
-- brackets in one another than the body.
use Rattle.std.proofs.Common.{ℕ, suc, ◌≤◌, max, List, Option, Some, None, arith}
use Rattle.halo_status.specs.Nodes.{AtEachNode, AtEachNodeIn}
use Rattle.halo_status.specs.Tree as status
use Rattle.halo_symbol.specs.Nesting.{nest, nest_body, nest_members}
use Rattle.halo_symbol.specs.StatusOf.{tree_of_body, tree_of_content, tree_of_list, tree_of_node, trees_of_members}
use Rattle.halo_symbol.specs.Symbol.{Mark}
use Rattle.halo_symbol.specs.Tree.{Node, life, term, last, at_least, exactly, group, Members, one, and, Body, list, reversion}
use Rattle.halo_spell.specs.Canonical.{body_of, canonical_body, canonical_members, canonical_node, canonical_row, list_of}
use Rattle.halo_spell.proofs.FitTrees.{IsJointOfTwo}

-- there is at least one member
some_trees : (f : List ℕ → ℕ) (ms : Members) → 1 ≤ status.member_count (trees_of_members f ms)
some_trees f (one m) = omega arith
some_trees f (and m ms) = omega arith

module _ (f : List ℕ → ℕ) where
  mutual
    pub two-node : (m : Node) → AtEachNode IsJointOfTwo (tree_of_node f m)
    two-node (life name) = tt
    two-node (term years) = tt
    two-node (last ms) = (tt, two-members ms)
    two-node (at_least rank ms) = (tt, two-members ms)
    two-node (exactly rank ms) = (tt, two-members ms)
    two-node (group body) = two-body body

    pub two-members : (ms : Members) → AtEachNodeIn IsJointOfTwo (trees_of_members f ms)
    two-members (one m) = (two-node m, tt)
    two-members (and m ms) = (two-node m, two-members ms)

    two-list : (ms : Members) → AtEachNode IsJointOfTwo (tree_of_list f ms)
    two-list (one m) = two-node m
    two-list (and m ms) = (omega (arith, some_trees f ms), (two-node m, two-members ms))

    pub two-body : (body : Body) → AtEachNode IsJointOfTwo (tree_of_body f body)
    two-body (list ms) = two-list ms
    two-body (reversion ms ns) = (tt, two-list ms, two-list ns)

-- brackets that are left out make nothing deeper
nest-list_of : (m : Node) → nest_members (list_of m) ≤ nest m
nest-list_of (life name) = omega arith
nest-list_of (term years) = omega arith
nest-list_of (last ms) = omega arith
nest-list_of (at_least rank ms) = omega arith
nest-list_of (exactly rank ms) = omega arith
nest-list_of (group (list ms)) = omega arith
nest-list_of (group (reversion ms ns)) = omega arith

nest-body_of : (m : Node) → nest_body (body_of m) ≤ nest m
nest-body_of (life name) = omega arith
nest-body_of (term years) = omega arith
nest-body_of (last ms) = omega arith
nest-body_of (at_least rank ms) = omega arith
nest-body_of (exactly rank ms) = omega arith
nest-body_of (group body) = omega arith

module _ (names : List (List ℕ)) (f : List ℕ → ℕ) where
  mutual
    nest-node : (m : Node) → nest (canonical_node names (tree_of_node f m)) ≤ nest m
    nest-node (life name) = omega arith
    nest-node (term years) = omega arith
    nest-node (last ms) = omega (arith, nest-canonical_members ms)
    nest-node (at_least rank ms) = omega (arith, nest-canonical_members ms)
    nest-node (exactly rank ms) = omega (arith, nest-canonical_members ms)
    nest-node (group body) = nest-grouped body

    -- a list of members
    pub nest-canonical_members : (ms : Members)
        → nest_members (canonical_members names (trees_of_members f ms)) ≤ nest_members ms
    nest-canonical_members (one m) = nest-node m
    nest-canonical_members (and m ms) = nest-row (canonical_node names (tree_of_node f m)) (nest m) (nest-node m) ms

    nest-row : (first : Node) (depth : ℕ) → nest first ≤ depth → (ms : Members)
        → nest_members (canonical_row names first (trees_of_members f ms)) ≤ max depth (nest_members ms)
    nest-row first depth h (one n) = omega (arith, h, nest-node n)
    nest-row first depth h (and n ns) =
        omega (arith, h, nest-row (canonical_node names (tree_of_node f n)) (nest n) (nest-node n) ns)

    -- a list as a side of a reversion
    nest-side : (ms : Members) → nest_members (list_of (canonical_node names (tree_of_list f ms))) ≤ nest_members ms
    nest-side (one m) = omega (arith, nest-node m, nest-list_of (canonical_node names (tree_of_node f m)))
    nest-side (and m ms) = nest-row (canonical_node names (tree_of_node f m)) (nest m) (nest-node m) ms

    -- a body in brackets
    nest-grouped : (body : Body) → nest (canonical_node names (tree_of_body f body)) ≤ suc (nest_body body)
    nest-grouped (list (one m)) = omega (arith, nest-node m)
    nest-grouped (list (and m ms)) =
        omega (arith, nest-row (canonical_node names (tree_of_node f m)) (nest m) (nest-node m) ms)
    nest-grouped (reversion ms ns) = omega (arith, nest-side ms, nest-side ns)

  pub nest-canonical_body : (body : Body) → nest_body (canonical_body names (tree_of_body f body)) ≤ nest_body body
  nest-canonical_body (list (one m)) =
      omega (arith, nest-node m, nest-body_of (canonical_node names (tree_of_node f m)))
  nest-canonical_body (list (and m ms)) = nest-row (canonical_node names (tree_of_node f m)) (nest m) (nest-node m) ms
  nest-canonical_body (reversion ms ns) = omega (arith, nest-side ms, nest-side ns)

  pub nest-canonical_content : (mark : Option Mark) (body : Body)
      → nest_body (canonical_body names (tree_of_content f mark body)) ≤ nest_body body
  nest-canonical_content None body = nest-canonical_body body
  nest-canonical_content (Some mark) (list ms) = nest-canonical_members ms
  nest-canonical_content (Some mark) (reversion ms ns) = nest-canonical_body (reversion ms ns)
