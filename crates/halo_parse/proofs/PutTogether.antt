-- Lists of members in memory, put together member by member.
use Rattle.std.proofs.Common.{◌≡◌, ℕ, ◌+◌, ◌<◌, List, [], ◌∷◌, ◌++◌, length, get_or, take, refl, ap, sym, ◌∙◌, arith}
use Rattle.std.proofs.lemmas.List.{take_more}
use Rattle.halo_status.specs.StatusTree.{tree_of, trees_in}
use Rattle.halo_status.specs.Tree.{Tree, Trees, joint, none, more}
use Rattle.halo_status.specs.declared.status.Status.{Status}
use Rattle.halo_symbol.specs.StatusOf.{tree_of_list, tree_of_node, trees_of_members}
use Rattle.halo_symbol.specs.Tree as plain
use Rattle.halo_symbol.specs.View.{members_of, plain_node}
use Rattle.halo_symbol.specs.declared.tree.Node.{Node}

-- trees with one more at the end
with_last : Trees → Tree → Trees
with_last none t = more t none
with_last (more s ms) t = more s (with_last ms t)

trees_in-push : (all : List Status) (s : Status) → trees_in (all ++ s ∷ []) ≡ with_last (trees_in all) (tree_of s)
unfolding with_last
trees_in-push [] s = refl
trees_in-push (o ∷ all) s = ap (more (tree_of o)) (trees_in-push all s)

module _ (life_of : List ℕ → ℕ) where
  trees_of_members-push : (first : plain.Node) (ms : List Node) (m : Node)
      → trees_of_members life_of (members_of first (ms ++ m ∷ []))
      ≡ with_last (trees_of_members life_of (members_of first ms)) (tree_of_node life_of (plain_node m))
  unfolding with_last
  trees_of_members-push first [] m = refl
  trees_of_members-push first (o ∷ ms) m =
      ap (more (tree_of_node life_of first)) (trees_of_members-push (plain_node o) ms m)

  -- one more member of a list is put behind those before it
  pub one_member_more : (first : plain.Node) (ms : List Node) (k : ℕ) (m : Node) (all : List Status) (s : Status)
      → k < length ms → m ≡ get_or ms k m
      → trees_in all ≡ trees_of_members life_of (members_of first (take k ms)) → tree_of s
      ≡ tree_of_node life_of (plain_node m)
      → trees_in (all ++ s ∷ []) ≡ trees_of_members life_of (members_of first (take (k + 1) ms))
  one_member_more first ms k m all s here is so_far one =
      let taken : take (k + 1) ms ≡ take k ms ++ m ∷ [] =
      take_more ms k m here ∙ ap (λ o. take k ms ++ o ∷ []) (sym is) in
      rw (taken, trees_in-push all s, trees_of_members-push first (take k ms) m, so_far, one)

  -- a list of more than one member is joint
  pub joint_of_more : (first : plain.Node) (ms : List Node) → 0 < length ms
      → joint (trees_of_members life_of (members_of first ms)) ≡ tree_of_list life_of (members_of first ms)
  joint_of_more first [] some = absurd (omega arith)
  joint_of_more first (m ∷ ms) some = refl
