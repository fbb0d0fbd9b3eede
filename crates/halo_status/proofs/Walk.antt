-- A walk over the members of a status.
use Rattle.std.proofs.Common.{◌≡◌, ℕ, ◌+◌, ◌<◌, List, length, get_or, drop, add-one, drop-cons}
use Rattle.halo_status.specs.declared.status.Status.{Status}
use Rattle.halo_status.specs.StatusTree.{tree_of, trees_in}
use Rattle.halo_status.specs.Tree.{more}

-- the members that are left at a place are the one there and those behind it
pub left_at : (ss : List Status) (i : ℕ) (s : Status) → i < length ss → s ≡ get_or ss i s
    → trees_in (drop i ss) ≡ more (tree_of s) (trees_in (drop (i + 1) ss))
left_at ss i s h e = rw (add-one, drop-cons ss i s h, ← e)
