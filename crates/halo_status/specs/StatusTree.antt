-- The plain tree of a status in memory.
use Rattle.std.specs.Prelude.{List, [], ◌∷◌}
use Rattle.halo_status.specs.declared.status.Status.{Status, Life, Term, Joint', Last', AtLeast', Exactly', After', Row_of-Status, end_of-Status, more_of-Status}
use Rattle.halo_status.specs.Tree.{Tree, Trees, life, term, joint, last, at_least, exactly, after, none, more}

-- the tree that a status is, without the places of its parts in memory
unfoldable mutual
  pub tree_of : Status → Tree
  tree_of (Life i) = life i
  tree_of (Term n) = term n
  tree_of (Joint' m ms) = joint (trees_of ms)
  tree_of (Last' m ms) = last (trees_of ms)
  tree_of (AtLeast' r m ms) = at_least r (trees_of ms)
  tree_of (Exactly' r m ms) = exactly r (trees_of ms)
  tree_of (After' p s q t) = after (tree_of s) (tree_of t)

  pub trees_of : {m : _} → Row_of-Status m → Trees
  trees_of end_of-Status = none
  trees_of (more_of-Status s rest) = more (tree_of s) (trees_of rest)

-- the trees of a list of statuses
abbrev pub trees_in : List Status → Trees
trees_in [] = none
trees_in (s ∷ ss) = more (tree_of s) (trees_in ss)
