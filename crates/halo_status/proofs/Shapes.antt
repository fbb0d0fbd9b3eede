-- The tree of a status in memory, at each variant.
use Rattle.std.proofs.Common.{rules, ◌≡◌, ℕ, List, refl, ap}
use Rattle.halo_status.specs.declared.status.Status.{Status, Row_of-Status, end_of-Status, more_of-Status, items-the_row-Status, Life, Term, After, Joint, Last, AtLeast, Exactly, the_lemmas}
use Rattle.std.specs.declared.boxed.Box.{Box}
use Rattle.std.specs.declared.alloc.Global.{Global}
use Rattle.halo_status.specs.Tree.{life, term, after, joint, last, at_least, exactly, more}
use Rattle.halo_status.specs.StatusTree.{tree_of, trees_in, trees_of}

-- the members in memory are the list that they are seen as
rows : (n : _) (ms : Row_of-Status n) → trees_of ms ≡ trees_in (items-the_row-Status n ms)
unfolding tree_of trees_of
rows n end_of-Status = refl
rows n (more_of-Status s ms) = ap (more (tree_of s)) (rows _ ms)

pub tree_of-Life : (i : ℕ) → tree_of (Life i) ≡ life i
unfolding tree_of trees_of
tree_of-Life i = refl

pub tree_of-Term : (n : ℕ) → tree_of (Term n) ≡ term n
unfolding tree_of trees_of
tree_of-Term n = refl

pub tree_of-Joint : (ms : List Status) → tree_of (Joint ms) ≡ joint (trees_in ms)
unfolding tree_of trees_of
tree_of-Joint ms = search (rules, the_lemmas, rows)

pub tree_of-Last : (ms : List Status) → tree_of (Last ms) ≡ last (trees_in ms)
unfolding tree_of trees_of
tree_of-Last ms = search (rules, the_lemmas, rows)

pub tree_of-AtLeast : (r : ℕ) (ms : List Status) → tree_of (AtLeast r ms) ≡ at_least r (trees_in ms)
unfolding tree_of trees_of
tree_of-AtLeast r ms = search (rules, the_lemmas, rows)

pub tree_of-Exactly : (r : ℕ) (ms : List Status) → tree_of (Exactly r ms) ≡ exactly r (trees_in ms)
unfolding tree_of trees_of
tree_of-Exactly r ms = search (rules, the_lemmas, rows)

pub tree_of-After : (s t : Box Status Global) → tree_of (After s t) ≡ after (tree_of s.value) (tree_of t.value)
unfolding tree_of trees_of
tree_of-After s t = search (rules, the_lemmas)

pub ruleset shapes =
    (tree_of-Life, tree_of-Term, tree_of-Joint, tree_of-Last, tree_of-AtLeast, tree_of-Exactly, tree_of-After)
