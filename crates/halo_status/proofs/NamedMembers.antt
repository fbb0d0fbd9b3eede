-- The member at a place of a list: it is named, and counted, among all members.
use Rattle.std.proofs.Common.{◌≡◌, ℕ, zero, suc, ◌+◌, ◌<◌, ◌≤◌, List, [], ◌∷◌, true, length, drop, sym, arith, Some}
use Rattle.std.specs.Prelude.{slice_get}
use Rattle.std.proofs.lemmas.Option.{get_or_from_slice_get}
use Rattle.halo_status.specs.declared.status.Status.{Status}
use Rattle.halo_status.specs.Tree.{more}
use Rattle.halo_status.specs.StatusTree.{tree_of, trees_in}
use Rattle.halo_status.specs.Naming.{any_names_life, any_names_term, names_life, names_term}
use Rattle.halo_status.specs.Nodes.{nodes, nodes_in}
use Rattle.halo_status.proofs.Agreement.{or-left, or-right}
use Rattle.halo_status.proofs.Walk.{left_at}

-- the member at a place, and those behind it
pub split_at : (ms : List Status) (i : ℕ) (s : Status) → i < length ms → slice_get ms i ≡ Some s
    → trees_in (drop i ms) ≡ more (tree_of s) (trees_in (drop (i + 1) ms))
split_at ms i s within h = left_at ms i s within (sym (get_or_from_slice_get ms i s s h))

-- what it names, all members name
pub names_life-at : (ms : List Status) (i : ℕ) (s : Status) → slice_get ms i ≡ Some s
    → (a : ℕ) → names_life a (tree_of s) ≡ true → any_names_life a (trees_in ms) ≡ true
names_life-at [] i s h a e = absurd (cc)
names_life-at (m ∷ ms) zero s h a e = let q : m ≡ s = grind arith in rw q (or-left _ _ e)
names_life-at (m ∷ ms) (suc i) s h a e = or-right (names_life a (tree_of m)) _ (names_life-at ms i s h a e)

pub names_term-at : (ms : List Status) (i : ℕ) (s : Status) → slice_get ms i ≡ Some s
    → (n : ℕ) → names_term n (tree_of s) ≡ true → any_names_term n (trees_in ms) ≡ true
names_term-at [] i s h n e = absurd (cc)
names_term-at (m ∷ ms) zero s h n e = let q : m ≡ s = grind arith in rw q (or-left _ _ e)
names_term-at (m ∷ ms) (suc i) s h n e = or-right (names_term n (tree_of m)) _ (names_term-at ms i s h n e)

-- its nodes are counted among those of all members
pub nodes-at : (ms : List Status) (i : ℕ) (s : Status) → slice_get ms i ≡ Some s
    → nodes (tree_of s) ≤ nodes_in (trees_in ms)
nodes-at [] i s h = absurd (cc)
nodes-at (m ∷ ms) zero s h = let q : m ≡ s = grind arith in rw q (omega arith)
nodes-at (m ∷ ms) (suc i) s h = omega (arith, nodes-at ms i s h)
