-- How many nodes statuses have.
use Rattle.std.proofs.Common.{◌≡◌, ◌+◌, ◌<◌, ℕ, List, [], ◌∷◌, length, sum_by, refl, arith}
use Rattle.std.specs.Prelude.{Option, Some, None}
use Rattle.std.proofs.lemmas.List.Sums.{sum_by-cons}
use Rattle.halo_status.specs.Nodes.{nodes, nodes_in}
use Rattle.halo_symbol.specs.StatusOf.{tree_of_body, tree_of_content, tree_of_list, tree_of_node, tree_of_symbol, trees_of_members}
use Rattle.halo_symbol.specs.Symbol.{Symbol, Mark}
use Rattle.halo_symbol.specs.Tree as plain
use Rattle.halo_symbol.specs.Tree.{life, term, last, at_least, exactly, group, one, and, list, reversion}
use Rattle.halo_symbol.specs.View.{members_of, plain_node}
use Rattle.halo_symbol.specs.declared.tree.Node.{Node}

-- how many nodes a member in memory has
abbrev pub nodes_of : (List ℕ → ℕ) → Node → ℕ
nodes_of f m = nodes (tree_of_node f (plain_node m))

pub nodes_in-members_of : (f : List ℕ → ℕ) (first : plain.Node) (ms : List Node)
    → nodes_in (trees_of_members f (members_of first ms)) ≡ nodes (tree_of_node f first) + sum_by (nodes_of f) ms
nodes_in-members_of f first [] = refl
nodes_in-members_of f first (m ∷ ms) =
    omega (arith, nodes_in-members_of f (plain_node m) ms, sum_by-cons (nodes_of f) m ms)

-- a list of two or more members has one node more than they have
pub nodes-joint : (f : List ℕ → ℕ) (first : plain.Node) (ms : List Node) → 0 < length ms
    → nodes (tree_of_list f (members_of first ms)) ≡ 1 + nodes_in (trees_of_members f (members_of first ms))
nodes-joint f first [] some = absurd (omega arith)
nodes-joint f first (m ∷ ms) some = refl

mutual
  -- how many nodes a status has does not depend on which lives its names are
  nodes-tree_of_node : (f g : List ℕ → ℕ) (m : plain.Node) → nodes (tree_of_node f m) ≡ nodes (tree_of_node g m)
  nodes-tree_of_node f g (life name) = refl
  nodes-tree_of_node f g (term years) = refl
  nodes-tree_of_node f g (last ms) = omega (arith, nodes_in-trees_of_members f g ms)
  nodes-tree_of_node f g (at_least rank ms) = omega (arith, nodes_in-trees_of_members f g ms)
  nodes-tree_of_node f g (exactly rank ms) = omega (arith, nodes_in-trees_of_members f g ms)
  nodes-tree_of_node f g (group body) = nodes-tree_of_body f g body

  nodes_in-trees_of_members : (f g : List ℕ → ℕ) (ms : plain.Members)
      → nodes_in (trees_of_members f ms) ≡ nodes_in (trees_of_members g ms)
  nodes_in-trees_of_members f g (one m) = omega (arith, nodes-tree_of_node f g m)
  nodes_in-trees_of_members f g (and m ms) = omega (arith, nodes-tree_of_node f g m, nodes_in-trees_of_members f g ms)

  nodes-tree_of_list : (f g : List ℕ → ℕ) (ms : plain.Members) → nodes (tree_of_list f ms) ≡ nodes (tree_of_list g ms)
  nodes-tree_of_list f g (one m) = nodes-tree_of_node f g m
  nodes-tree_of_list f g (and m ms) = omega (arith, nodes-tree_of_node f g m, nodes_in-trees_of_members f g ms)

  pub nodes-tree_of_body : (f g : List ℕ → ℕ) (body : plain.Body)
      → nodes (tree_of_body f body) ≡ nodes (tree_of_body g body)
  nodes-tree_of_body f g (list ms) = nodes-tree_of_list f g ms
  nodes-tree_of_body f g (reversion ms ns) = omega (arith, nodes-tree_of_list f g ms, nodes-tree_of_list f g ns)

pub nodes-tree_of_symbol : (f g : List ℕ → ℕ) (s : Symbol) → nodes (tree_of_symbol f s) ≡ nodes (tree_of_symbol g s)
nodes-tree_of_symbol f g s = content s.mark s.body
  where
    content : (mark : Option Mark) (body : plain.Body)
        → nodes (tree_of_content f mark body) ≡ nodes (tree_of_content g mark body)
    content None body = nodes-tree_of_body f g body
    content (Some mark) (list ms) = omega (arith, nodes_in-trees_of_members f g ms)
    content (Some mark) (reversion ms ns) = nodes-tree_of_body f g (reversion ms ns)
