-- The status that a body means, where each name is the name of a life with a number.
use Rattle.std.specs.Prelude.{ℕ, List, Option, Some, None}
use Rattle.halo_text.specs.Number.{number}
use Rattle.halo_status.specs.Tree as status
use Rattle.halo_status.specs.Tree.{Tree, Trees}
use Rattle.halo_symbol.specs.Tree.{Node, life, term, last, at_least, exactly, group, Members, one, and, Body, list, reversion}
use Rattle.halo_symbol.specs.Symbol.{Symbol, Mark}

abbrev mutual
  -- the status of a member; brackets add nothing to the body in them
  pub tree_of_node : (List ℕ → ℕ) → Node → Tree
  tree_of_node life_of (life name) = status.life (life_of name)
  tree_of_node life_of (term years) = status.term (number years)
  tree_of_node life_of (last ms) = status.last (trees_of_members life_of ms)
  tree_of_node life_of (at_least rank ms) =
      status.at_least (number rank) (trees_of_members life_of ms)
  tree_of_node life_of (exactly rank ms) =
      status.exactly (number rank) (trees_of_members life_of ms)
  tree_of_node life_of (group body) = tree_of_body life_of body

  -- those of the members of a list, in their order
  pub trees_of_members : (List ℕ → ℕ) → Members → Trees
  trees_of_members life_of (one m) = status.more (tree_of_node life_of m) status.none
  trees_of_members life_of (and m ms) =
      status.more (tree_of_node life_of m) (trees_of_members life_of ms)

  -- the status of a list: that of its member where there is one, and else the joint status of all
  pub tree_of_list : (List ℕ → ℕ) → Members → Tree
  tree_of_list life_of (one m) = tree_of_node life_of m
  tree_of_list life_of (and m ms) =
      status.joint (status.more (tree_of_node life_of m) (trees_of_members life_of ms))

  -- the status of a body with no mark
  pub tree_of_body : (List ℕ → ℕ) → Body → Tree
  tree_of_body life_of (list ms) = tree_of_list life_of ms
  tree_of_body life_of (reversion ms ns) =
      status.after (tree_of_list life_of ms) (tree_of_list life_of ns)

-- the status of a body: with a mark it is the joint status of its members, also where there is one
abbrev pub tree_of_content : (List ℕ → ℕ) → Option Mark → Body → Tree
tree_of_content life_of None body = tree_of_body life_of body
tree_of_content life_of (Some mark) (list ms) = status.joint (trees_of_members life_of ms)
tree_of_content life_of (Some mark) (reversion ms ns) = tree_of_body life_of (reversion ms ns)

-- the status that a symbol is paid on
abbrev pub tree_of_symbol : (List ℕ → ℕ) → Symbol → Tree
tree_of_symbol life_of s = tree_of_content life_of s.mark s.body
