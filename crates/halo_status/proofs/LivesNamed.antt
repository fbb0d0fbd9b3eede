-- The lives that a status names are those that its parts name.
use Rattle.std.proofs.Common.{◌≡◌, ℕ, ◌+◌, ◌<◌, List, length, get_or, drop, Bool, true, false, ◌||◌, refl, sym, ◌∙◌}
use Rattle.std.proofs.Math.Bool.{or_assoc}
use Rattle.std.specs.Prelude.{bit_or}
use Rattle.std.specs.declared.alloc.Global.{Global}
use Rattle.std.specs.declared.boxed.Box.{Box}
use Rattle.halo_status.specs.declared.status.Status.{Status, After}
use Rattle.halo_sums.specs.Masks.{has_bit}
use Rattle.halo_status.specs.Naming.{names_life, any_names_life, NamesLivesBelow, AnyNamesLivesBelow}
use Rattle.halo_status.specs.StatusTree.{tree_of, trees_in}
use Rattle.halo_status.proofs.Lists.{HasMembers, names_life-list}
use Rattle.halo_status.proofs.Masks.{has_bit-or}
use Rattle.halo_status.proofs.Shapes.{tree_of-After}
use Rattle.halo_status.proofs.Walk.{left_at}

-- one status after another names the lives of both
names_life-After : (i : ℕ) (now : Status) (s t : Box Status Global) → now ≡ After s t
    → names_life i (tree_of now) ≡ (names_life i (tree_of s.value) || names_life i (tree_of t.value))
names_life-After i now s t h = rw (h, tree_of-After s t)

or_left : (a b : Bool) → a ≡ true → (a || b) ≡ true
or_left a b h = rw h

or_right : (a b : Bool) → b ≡ true → (a || b) ≡ true
or_right true b h = refl
or_right false b h = h

-- a bound on the numbers of the lives that a status names is one for its parts
module _ (bound : ℕ) (now : Status) where
  pub names_below_first : (s t : Box Status Global) → now ≡ After s t → NamesLivesBelow bound (tree_of now)
      → NamesLivesBelow bound (tree_of s.value)
  names_below_first s t h below i named = below i (names_life-After i now s t h ∙ or_left _ _ named)

  pub names_below_second : (s t : Box Status Global) → now ≡ After s t → NamesLivesBelow bound (tree_of now)
      → NamesLivesBelow bound (tree_of t.value)
  names_below_second s t h below i named = below i (names_life-After i now s t h ∙ or_right _ _ named)

  pub names_below_members : (ms : List Status) → HasMembers now ms → NamesLivesBelow bound (tree_of now)
      → AnyNamesLivesBelow bound (trees_in ms)
  names_below_members ms h below i named = below i (names_life-list i now ms h ∙ named)

-- the union of the masks of both is the mask of one after the other
pub both_lives : (now : Status) (s t : Box Status Global) (first second : ℕ) → now ≡ After s t
    → ((i : ℕ) → has_bit first i ≡ names_life i (tree_of s.value)) →
    ((i : ℕ) → has_bit second i ≡ names_life i (tree_of t.value))
    → (i : ℕ) → has_bit (bit_or first second) i ≡ names_life i (tree_of now)
both_lives now s t first second h lives_of_s lives_of_t i =
    rw (has_bit-or first second i, lives_of_s i, lives_of_t i) (sym (names_life-After i now s t h))

module _ (ss : List Status) (k : ℕ) (s : Status) (lives : ℕ) (here : k < length ss) (is : s ≡ get_or ss k s)
    (found : (i : ℕ) → (has_bit lives i || any_names_life i (trees_in (drop k ss))) ≡ any_names_life i (trees_in ss))
  where
    -- the lives found, those of the member at hand, and those of the members behind it are all
    split : (i : ℕ)
        → (has_bit lives i || (names_life i (tree_of s) || any_names_life i (trees_in (drop (k + 1) ss))))
        ≡ any_names_life i (trees_in ss)
    split i = rw (left_at ss k s here is) at found i

    -- and for the member at hand
    pub names_below_member : (bound : ℕ) → AnyNamesLivesBelow bound (trees_in ss) → NamesLivesBelow bound (tree_of s)
    names_below_member bound below i named = below i (sym (split i) ∙ or_right _ _ (or_left _ _ named))

    -- with the lives of that member found as well, those behind it are left
    pub more_lives : (more : ℕ) → ((i : ℕ) → has_bit more i ≡ names_life i (tree_of s))
        → (i : ℕ) → (has_bit (bit_or lives more) i || any_names_life i (trees_in (drop (k + 1) ss)))
        ≡ any_names_life i (trees_in ss)
    more_lives more lives_of_s i = rw (has_bit-or lives more i, lives_of_s i, or_assoc) (split i)
