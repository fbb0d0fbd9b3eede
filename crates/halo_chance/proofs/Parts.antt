-- What the parts of a status need.
use Rattle.std.proofs.Common.{◌≡◌, ℕ, zero, suc, ◌+◌, ◌-◌, ◌<◌, List, [], ◌∷◌, length, Some, drop, arith, refl}
use Rattle.std.specs.Prelude.{slice_get}
use Rattle.std.specs.declared.boxed.Box.{Box}
use Rattle.std.specs.declared.alloc.Global.{Global}
use Rattle.halo_status.specs.declared.status.Status.{Status, After, Life}
use Rattle.halo_status.specs.Naming.{AnyNamesLivesBelow, NamesLivesBelow, names_life}
use Rattle.halo_status.specs.Tree.{none, more}
use Rattle.halo_status.specs.StatusTree.{tree_of, trees_in}
use Rattle.halo_status.proofs.Lists.{HasMembers, names_life-list}
use Rattle.halo_status.proofs.Shapes.{tree_of-After, tree_of-Life}
use Rattle.halo_status.proofs.Agreement.{or-left, or-right, same}
use Rattle.halo_status.proofs.NamedMembers.{names_life-at, split_at}

-- no members are left behind the last one
pub drop-all : (ms : List Status) (n : ℕ) → n ≡ length ms → trees_in (drop n ms) ≡ none
drop-all [] n e = rw e refl
drop-all (m ∷ ms) n e = rw e (drop-all ms (length ms) refl)

-- a member that is found has a place in its list
found-within : (ms : List Status) (i : ℕ) (s : Status) → slice_get ms i ≡ Some s → i < length ms
found-within [] i s e = absurd (cc)
found-within (m ∷ ms) zero s e = omega arith
found-within (m ∷ ms) (suc i) s e = omega (arith, found-within ms i s e)

-- the member before a place, and those from the place on
pub split-before : (ms : List Status) (i : ℕ) (s : Status) → 0 < i → slice_get ms (i - 1) ≡ Some s
    → trees_in (drop (i - 1) ms) ≡ more (tree_of s) (trees_in (drop i ms))
split-before ms i s h at =
    let e : i - 1 + 1 ≡ i = omega arith in rw e at (split_at ms (i - 1) s (found-within ms (i - 1) s at) at)

module _ (bound : ℕ) where
  pub named-life : (now : Status) (i : ℕ) → now ≡ Life i → NamesLivesBelow bound (tree_of now) → i < bound
  named-life now i e named = named i (rw (e, tree_of-Life i) (same i))

  pub named-list : (now : Status) (ms : List Status) → HasMembers now ms → NamesLivesBelow bound (tree_of now)
      → AnyNamesLivesBelow bound (trees_in ms)
  named-list now ms e named i h = named i (rw (names_life-list i now ms e) h)

  pub named-member : (ms : List Status) (i : ℕ) (s : Status) → slice_get ms i ≡ Some s
      → AnyNamesLivesBelow bound (trees_in ms) → NamesLivesBelow bound (tree_of s)
  named-member ms i s at named a h = named a (names_life-at ms i s at a h)

  pub named-first : (now : Status) (s t : Box Status Global) → now ≡ After s t → NamesLivesBelow bound (tree_of now)
      → NamesLivesBelow bound (tree_of s.value)
  named-first now s t e named i h = named i (rw (e, tree_of-After s t) (or-left _ _ h))

  pub named-then : (now : Status) (s t : Box Status Global) → now ≡ After s t → NamesLivesBelow bound (tree_of now)
      → NamesLivesBelow bound (tree_of t.value)
  named-then now s t e named i h = named i (rw (e, tree_of-After s t) (or-right (names_life i (tree_of s.value)) _ h))
