-- A status with a list of members, whichever of the four it is.
use Rattle.std.proofs.Common.{◌≡◌, ◌⊎◌, ℕ, ◌+◌, List, [], ◌∷◌, length, refl, arith, inl, inr}
use Rattle.halo_status.specs.declared.status.Status.{Status, Joint, Last, AtLeast, Exactly, After}
use Rattle.std.specs.declared.boxed.Box.{Box}
use Rattle.std.specs.declared.alloc.Global.{Global}
use Rattle.halo_status.specs.Bounds.{IsShort}
use Rattle.halo_status.specs.Naming.{names_life, any_names_life}
use Rattle.halo_status.specs.Nodes.{nodes, nodes_in, AtEachNodeIn, HasShortList, HasShortLists}
use Rattle.halo_status.specs.StatusTree.{tree_of, trees_in}
use Rattle.halo_status.specs.Tree.{Tree, joint, last, at_least, exactly, member_count}
use Rattle.halo_status.proofs.Shapes.{tree_of-Joint, tree_of-Last, tree_of-AtLeast, tree_of-Exactly, tree_of-After}

-- a status has these members
abbrev pub HasMembers : Status → List Status → Type 0
HasMembers now ms =
    (now ≡ Joint ms) ⊎ (now ≡ Last ms) ⊎ ((r : ℕ) × (now ≡ AtLeast r ms)) ⊎ ((r : ℕ) × (now ≡ Exactly r ms))

-- what holds of each kind of list holds of it
at_list : (P : Tree → Type 0) (now : Status) (ms : List Status) → P (joint (trees_in ms)) → P (last (trees_in ms))
    → ((r : ℕ) → P (at_least r (trees_in ms))) → ((r : ℕ) → P (exactly r (trees_in ms)))
    → HasMembers now ms → P (tree_of now)
at_list P now ms at_joint at_last at_least_of at_exactly (inl h) = rw (h, tree_of-Joint ms) at_joint
at_list P now ms at_joint at_last at_least_of at_exactly (inr (inl h)) = rw (h, tree_of-Last ms) at_last
at_list P now ms at_joint at_last at_least_of at_exactly (inr (inr (inl h))) =
    rw (h.1, tree_of-AtLeast h.0 ms) (at_least_of h.0)
at_list P now ms at_joint at_last at_least_of at_exactly (inr (inr (inr h))) =
    rw (h.1, tree_of-Exactly h.0 ms) (at_exactly h.0)

-- its nodes are one more than those of its members
pub nodes-list : (now : Status) (ms : List Status) → HasMembers now ms
    → nodes (tree_of now) ≡ 1 + nodes_in (trees_in ms)
nodes-list now ms = at_list (λ s. nodes s ≡ 1 + nodes_in (trees_in ms)) now ms refl refl (λ r. refl) (λ r. refl)

-- the trees of a list are as many as the list is long
pub member_count-trees_in : (ms : List Status) → member_count (trees_in ms) ≡ length ms
member_count-trees_in [] = refl
member_count-trees_in (s ∷ ms) = omega (arith, member_count-trees_in ms)

-- its lists are short where its own is and those of its members are
pub short_lists : (now : Status) (ms : List Status) → IsShort (length ms) → AtEachNodeIn HasShortList (trees_in ms)
    → HasMembers now ms → HasShortLists (tree_of now)
short_lists now ms short below =
    let here : IsShort (member_count (trees_in ms)) = rw (member_count-trees_in ms) short in
    at_list HasShortLists now ms (here, below) (here, below) (λ r. (here, below)) (λ r. (here, below))

-- it names the lives that its members name
pub names_life-list : (i : ℕ) (now : Status) (ms : List Status) → HasMembers now ms
    → names_life i (tree_of now) ≡ any_names_life i (trees_in ms)
names_life-list i now ms =
    at_list (λ s. names_life i s ≡ any_names_life i (trees_in ms)) now ms refl refl (λ r. refl) (λ r. refl)

-- the nodes of one status after another
pub nodes-After : (now : Status) (s t : Box Status Global) → now ≡ After s t
    → nodes (tree_of now) ≡ 1 + nodes (tree_of s.value) + nodes (tree_of t.value)
nodes-After now s t h = rw (h, tree_of-After s t)
